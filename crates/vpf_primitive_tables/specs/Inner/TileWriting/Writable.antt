-- Tables of primitives that can be written, and that pass no limit.
use Rattle.std.specs.Prelude.{◌≡◌, ◌≤◌, Some, length}
use Rattle.vpf_base.specs.Limits.{most_rows}
use Rattle.vpf_table.specs.Canonical.{IsWritable}
use Rattle.vpf_table.specs.Grid.{Grid}
use Rattle.vpf_prims.specs.Reading.{PrimitiveTables}

-- the headers of all tables are sound, and their rows fit the columns
pub record AreWritable (T : PrimitiveTables) : Type 0 where
  pub edg : IsWritable T.edg
  pub fac : IsWritable T.fac
  pub rng : IsWritable T.rng
  pub cnd : IsWritable T.cnd
  pub end : (grid : Grid) → T.end ≡ Some grid → IsWritable grid

-- none has more rows than a table may have
pub record HaveFewRows (T : PrimitiveTables) : Type 0 where
  pub edg : length T.edg.rows ≤ most_rows
  pub fac : length T.fac.rows ≤ most_rows
  pub rng : length T.rng.rows ≤ most_rows
  pub cnd : length T.cnd.rows ≤ most_rows
  pub end : (grid : Grid) → T.end ≡ Some grid → length grid.rows ≤ most_rows
