-- What contracts see of a row that is walked.
use Rattle.std.specs.Prelude.{◌≡◌, ℕ, ◌≤◌, List, length, drop, Result, Ok}
use Rattle.vpf_base.specs.declared.orders.Order.{Order}
use Rattle.vpf_triplet.specs.declared.places.Place.{Place}
use Rattle.vpf_head.specs.Head.{Col}
use Rattle.vpf_table.specs.declared.row.RowWalk.TheInside.{Inside}
use Rattle.vpf_table.specs.Grid.{Row}
use Rattle.vpf_table.specs.Reading.{row_at}
use Rattle.vpf_table.specs.Walking.{row_of, past_of}

-- of a row that was read so, what is left from this column on begins at `at`
abbrev pub IsLeft : Order → List Col → List ℕ → Result (Row × ℕ) Place → ℕ → ℕ → Type 0
IsLeft o columns bytes read column at = row_at o (drop column columns) bytes at ≡ Ok (drop column (row_of read), past_of read)

-- what reading the row gives
abbrev pub walked_row : Inside → Result (Row × ℕ) Place
walked_row w = row_at w.header.now.order w.header.now.columns w.bytes.now w.begin

-- its values
abbrev pub cells_walked : Inside → Row
cells_walked w = row_of (walked_row w)

-- the row is spelled, and its cells from a column on begin where the walk has come to
pub record IsWalked (w : Inside) : Type 0 where
  pub read : walked_row w ≡ Ok (row_of (walked_row w), past_of (walked_row w))
  pub begun : w.begin ≤ length w.bytes.now
  pub left : IsLeft w.header.now.order w.header.now.columns w.bytes.now (walked_row w) w.column w.at
  pub inside : w.at ≤ length w.bytes.now
