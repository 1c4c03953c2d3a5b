-- A file and the table that it spells.
use Rattle.std.specs.Prelude.{◌≡◌, ℕ, ◌≤◌, List, length, Some, IsOk, slice_get}
use Rattle.vpf_table.specs.Grid.{Grid}
use Rattle.vpf_table.specs.Reading.{row_at}
use Rattle.vpf_table.specs.Walking.{row_of}

-- the bytes of a file, and the table that they spell
pub record FileTable : Type 0 where
  pub bytes : List ℕ
  pub grid : Grid

-- row k, counted from 0, begins at this offset
pub record RowStandsAt (f : FileTable) (k at : ℕ) : Type 0 where
  pub inside : at ≤ length f.bytes
  pub read : IsOk (row_at f.grid.head.order f.grid.head.columns f.bytes at)
  pub item : slice_get f.grid.rows k ≡ Some (row_of (row_at f.grid.head.order f.grid.head.columns f.bytes at))
