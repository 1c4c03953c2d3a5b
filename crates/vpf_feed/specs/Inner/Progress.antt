-- What a table that came in pieces comes to, if given bytes follow.
use Rattle.std.specs.Prelude.{ℕ, ◌+◌, ◌-◌, List, ◌++◌, length, drop, Result, Ok, Err, nat_lt, if◌then◌else◌}
use Rattle.vpf_base.specs.Limits.{most_rows}
use Rattle.vpf_base.specs.Results.{◌>>=◌}
use Rattle.vpf_base.specs.declared.orders.Order.{Order}
use Rattle.vpf_triplet.specs.declared.places.Place.{Place}
use Rattle.vpf_triplet.specs.declared.places.Code.TheVariants as codes
use Rattle.vpf_triplet.specs.Places.{fault}
use Rattle.vpf_table.specs.Grid.{Grid}
use Rattle.vpf_table.specs.Reading.{table_of}
use Rattle.vpf_feed.specs.declared.row_form.form.Field.{Field}
use Rattle.vpf_feed.specs.Inner.RowForm.Walk.{row_left, rows_to_come}
use Rattle.vpf_feed.specs.declared.summary.Summary.{Summary}

-- what came of the cell in hand
pub data Hand : Type 0 where
  -- no row is begun
  between : Hand
  -- these bytes of a cell, which don't tell how long it is
  within : List ℕ → Hand
  -- bytes of a cell that ends at this offset, whatever they say
  skipping : ℕ → Hand

-- what came of the rows of a table
pub record RowsSoFar : Type 0 where
  -- the order of the numbers, and the cells of each row that hold something
  pub order : Order
  pub fields : List Field
  -- how many columns there are
  pub columns : ℕ
  -- how many rows are whole
  pub done : ℕ
  -- of the row in hand the cells before this one are whole, and it begins at this offset of the file
  pub column : ℕ
  pub at : ℕ
  -- how many bytes came in all
  pub here : ℕ
  pub hand : Hand

-- what came of a table
pub data FeedProgress : Type 0 where
  -- the length number and the header text so far
  header : List ℕ → FeedProgress
  -- the header, and then rows
  rows : RowsSoFar → FeedProgress
  -- the place at which each file that begins so is refused
  refused : Place → FeedProgress

-- what a table is summed up to
abbrev pub summed : Result Grid Place → Result Summary Place
summed (Ok g) = Ok (record { order = g.head.order; rows = length g.rows; columns = length g.head.columns })
summed (Err place) = Err place

-- so many rows of a table
abbrev pub summed_rows : Order → ℕ → Result ℕ Place → Result Summary Place
summed_rows o columns (Ok n) = Ok (record { order = o; rows = n; columns = columns })
summed_rows o columns (Err place) = Err place

-- the number of rows, where of the row in hand these cells are left, the first at `at`, and then these bytes come
unfoldable pub row_comes : Order → List Field → List Field → ℕ → ℕ → List ℕ → Result ℕ Place
row_comes o fields left done at rest = row_left o left at rest >>= λ r. rows_to_come (most_rows - (done + 1)) o fields (done + 1) r.0 r.1

-- the number of rows, where this is in hand and then these bytes come
abbrev pub hand_comes : RowsSoFar → Hand → List ℕ → Result ℕ Place
hand_comes s between more = rows_to_come (most_rows - s.done) s.order s.fields s.done s.at more
hand_comes s (within kept) more = row_comes s.order s.fields (drop s.column s.fields) s.done s.at (kept ++ more)
hand_comes s (skipping past) more =
    if nat_lt (length more) (past - s.here) then Err (fault s.at codes.CellCut)
    else row_comes s.order s.fields (drop (s.column + 1) s.fields) s.done past (drop (past - s.here) more)

-- the number of rows, if these bytes follow, or the first fault
abbrev pub rows_come : RowsSoFar → List ℕ → Result ℕ Place
rows_come s more = hand_comes s s.hand more

-- what the table comes to, if these bytes follow
abbrev pub comes_to : FeedProgress → List ℕ → Result Summary Place
comes_to (header text) more = summed (table_of (text ++ more))
comes_to (rows s) more = summed_rows s.order s.columns (rows_come s more)
comes_to (refused place) more = Err place
