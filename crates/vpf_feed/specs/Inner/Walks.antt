-- What contracts see of a walk over rows.
use Rattle.std.specs.Prelude.{◌≡◌, ℕ, ◌+◌, ◌-◌, ◌<◌, ◌≤◌, ◌^◌, List, ◌++◌, Result, Err, length, take, drop, slice_get, Some}
use Rattle.vpf_base.specs.Limits.{most_rows}
use Rattle.vpf_triplet.specs.declared.places.Place.{Place}
use Rattle.vpf_triplet.specs.declared.places.Code.TheVariants as codes
use Rattle.vpf_feed.specs.declared.row_form.form.Field.{Field}
use Rattle.vpf_feed.specs.declared.row_form.form.RowForm.{RowForm}
use Rattle.vpf_feed.specs.Inner.RowForm.Form.{cell_size}
use Rattle.vpf_feed.specs.declared.walking.Hand.{Hand}
use Rattle.vpf_feed.specs.declared.walking.Hand.TheVariants as hands
use Rattle.vpf_feed.specs.declared.walking.Walk.{Walk}
use Rattle.vpf_feed.specs.Inner.Progress as progress
use Rattle.vpf_feed.specs.Inner.RowForm.Walk.{rows_to_come}
use Rattle.vpf_feed.specs.Inner.Progress.{RowsSoFar, row_comes, hand_comes, rows_come}

-- more bytes than any file has
abbrev pub bytes_most : ℕ
bytes_most = 2 ^ 63 + 2 ^ 62

-- what is in hand, with the bytes that are kept of it
abbrev pub hand_of : List ℕ → Hand → progress.Hand
hand_of kept hands.Between = progress.between
hand_of kept (hands.Within len) = progress.within (take len kept)
hand_of kept (hands.Skipping past) = progress.skipping past

-- the rows so far, of so many columns
abbrev pub so_far : RowForm → ℕ → Walk → RowsSoFar
so_far form columns w = record { order = form.order; fields = form.fields.items; columns = columns; done = w.done; column = w.column; at = w.at; here = w.here; hand = hand_of w.kept w.hand }

-- how many rows there are, if these bytes follow
abbrev pub walk_comes : RowForm → Walk → List ℕ → Result ℕ Place
walk_comes form w more = rows_come (so_far form 0 w) more

-- of the row in hand a cell has so many bytes, all kept, which don't tell its length
pub record IsInCell (form : RowForm) (w : Walk) (len : ℕ) : Type 0 where
  pub few : w.done < most_rows
  pub there : w.here ≡ w.at + len
  pub room : len < 13
  pub cut : (f : Field) → slice_get form.fields.items w.column ≡ Some f → cell_size form.order f (take len w.kept) ≡ Err codes.CellCut

-- of the row in hand a cell ends at this offset, before which bytes are still to come
pub record IsSkipping (form : RowForm) (w : Walk) (past : ℕ) : Type 0 where
  pub few : w.done < most_rows
  pub begun : w.at ≤ w.here
  pub more : w.here < past
  pub near : past < w.here + 2 ^ 40

-- no row is in hand
pub record IsBetween (form : RowForm) (w : Walk) : Type 0 where
  pub there : w.here ≡ w.at
  pub few : w.done ≤ most_rows

abbrev pub IsInHand : RowForm → Walk → Hand → Type 0
IsInHand form w hands.Between = IsBetween form w
IsInHand form w (hands.Within len) = IsInCell form w len
IsInHand form w (hands.Skipping past) = IsSkipping form w past

-- a walk over rows of this form
pub record IsWalk (form : RowForm) (w : Walk) : Type 0 where
  pub column : w.column < length form.fields.items
  pub hand : IsInHand form w w.hand

-- how many rows there are, if these bytes follow those that are kept of a cell
abbrev pub within_comes : RowForm → Walk → ℕ → List ℕ → Result ℕ Place
within_comes form w len more = row_comes form.order form.fields.items (drop w.column form.fields.items) w.done w.at (take len w.kept ++ more)

-- how many rows there are, if these bytes follow where no row is in hand
abbrev pub between_comes : RowForm → Walk → List ℕ → Result ℕ Place
between_comes form w more = rows_to_come (most_rows - w.done) form.order form.fields.items w.done w.at more

-- how many rows there are, if these bytes follow inside a cell that ends at this offset
abbrev pub skipping_comes : RowForm → Walk → ℕ → List ℕ → Result ℕ Place
skipping_comes form w past more = hand_comes (so_far form 0 w) (progress.skipping past) more

-- how many rows there are, if these bytes follow where the next cell of the row in hand begins at an offset
abbrev pub next_comes : RowForm → Walk → ℕ → List ℕ → Result ℕ Place
next_comes form w past more = row_comes form.order form.fields.items (drop (w.column + 1) form.fields.items) w.done past more
