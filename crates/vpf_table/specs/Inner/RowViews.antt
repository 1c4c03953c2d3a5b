-- What contracts see of a row in its file.
use Rattle.std.specs.Prelude.{◌≡◌, ℕ, ◌≤◌, length, Result, Ok}
use Rattle.vpf_triplet.specs.declared.places.Place.{Place}
use Rattle.vpf_table.specs.declared.row.RowView.TheInside.{Inside}
use Rattle.vpf_table.specs.Grid.{Row}
use Rattle.vpf_table.specs.Reading.{row_at}
use Rattle.vpf_table.specs.Walking.{row_of, past_of}

-- what reading the row gives
abbrev pub read_row : Inside → Result (Row × ℕ) Place
read_row r = row_at r.header.now.order r.header.now.columns r.bytes.now r.at

-- its values
abbrev pub row_cells : Inside → Row
row_cells r = row_of (read_row r)

-- a row is spelled there
pub record IsRowRead (r : Inside) : Type 0 where
  pub read : read_row r ≡ Ok (row_of (read_row r), past_of (read_row r))
  pub inside : r.at ≤ length r.bytes.now
