-- What contracts see of the cells of a row that are left.
use Rattle.std.specs.Prelude.{◌≡◌, ℕ, ◌≤◌, length, drop, Result, Ok}
use Rattle.vpf_triplet.specs.declared.places.Place.{Place}
use Rattle.vpf_table.specs.declared.row.Cells.TheInside.{Inside}
use Rattle.vpf_table.specs.Grid.{Row}
use Rattle.vpf_table.specs.Reading.{row_at}
use Rattle.vpf_table.specs.Walking.{row_of, past_of}

-- what reading the cells of the columns that are left gives
abbrev pub cells_to_read : Inside → Result (Row × ℕ) Place
cells_to_read s = row_at s.header.now.order (drop s.column s.header.now.columns) s.bytes.now s.at

-- their values
abbrev pub cells_left : Inside → Row
cells_left s = row_of (cells_to_read s)

-- they are spelled there
pub record AreCellsRead (s : Inside) : Type 0 where
  pub read : cells_to_read s ≡ Ok (row_of (cells_to_read s), past_of (cells_to_read s))
  pub inside : s.at ≤ length s.bytes.now
