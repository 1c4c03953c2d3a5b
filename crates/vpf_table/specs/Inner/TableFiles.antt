-- What contracts see of a table in its file.
use Rattle.std.specs.Prelude.{◌≡◌, ◌≤◌, ◌<◌, ◌^◌, ℕ, List, length, Result, Ok, Some, IfSome}
use Rattle.vpf_base.specs.Limits.{most_rows}
use Rattle.vpf_triplet.specs.declared.places.Place.{Place}
use Rattle.vpf_head.specs.Reading.{header_of}
use Rattle.vpf_table.specs.declared.table_file.TableFile.TheInside.{Inside}
use Rattle.vpf_table.specs.Inner.FileTables.{FileTable}
use Rattle.vpf_table.specs.Grid.{Row}
use Rattle.vpf_table.specs.Reading.{rows_at}
use Rattle.vpf_table.specs.Walking.{rows_of}
use Rattle.vpf_table.specs.Inner.Widths.{width_of}

-- what reading the rows gives
abbrev pub read_rows : Inside → Result (List Row) Place
read_rows t = rows_at most_rows t.header.value.order t.header.value.columns t.bytes.now t.start

-- the bytes, and the header and the rows
abbrev pub file_of : Inside → FileTable
file_of t = record { bytes = t.bytes.now; grid = record { head = t.header.value; rows = rows_of (read_rows t) } }

-- The bytes begin with the header, and after it are rows, so many, and of this width where one is kept: it is wherever it fits a number.
pub record IsRead (t : Inside) : Type 0 where
  pub begun : header_of t.bytes.now ≡ Ok (t.header.value, t.start)
  pub read : read_rows t ≡ Ok (rows_of (read_rows t))
  pub count : t.rows ≡ length (rows_of (read_rows t))
  pub fixed : IfSome t.width (λ w. width_of t.header.value.columns ≡ Some w)
  pub known : (w : ℕ) → width_of t.header.value.columns ≡ Some w → w < 2 ^ 64 → t.width ≡ Some w
  pub inside : t.start ≤ length t.bytes.now
