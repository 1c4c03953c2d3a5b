-- What contracts see of the rows of a table that are left.
use Rattle.std.specs.Prelude.{◌≡◌, ◌≤◌, List, IsOk, length, Result, Some, IfSome}
use Rattle.vpf_triplet.specs.declared.places.Place.{Place}
use Rattle.vpf_table.specs.declared.iteration.Rows.TheInside.{Inside}
use Rattle.vpf_table.specs.Grid.{Row}
use Rattle.vpf_table.specs.Reading.{rows_at}
use Rattle.vpf_table.specs.Walking.{rows_of}
use Rattle.vpf_table.specs.Inner.Widths.{width_of}

-- what reading the rows that are left gives
abbrev pub rows_to_read : Inside → Result (List Row) Place
rows_to_read s = rows_at s.left s.header.now.order s.header.now.columns s.bytes.now s.at

-- the rows
abbrev pub rows_left : Inside → List Row
rows_left s = rows_of (rows_to_read s)

-- they are spelled there, and are of this width where one is kept
pub record AreRowsRead (s : Inside) : Type 0 where
  pub read : IsOk (rows_to_read s)
  pub fixed : IfSome s.width (λ w. width_of s.header.now.columns ≡ Some w)
  pub inside : s.at ≤ length s.bytes.now
