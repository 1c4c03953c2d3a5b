-- What is so of the rows of every edge table, and of the rows of whole tables.
use Rattle.std.specs.Prelude.{◌≡◌, None, Some, List, map, length}
use Rattle.std.specs.List.{AllByRecursion}
use Rattle.vpf_table.specs.Grid.{Row, Grid}
use Rattle.vpf_prims.specs.declared.edges.Ranges.{Ranges}
use Rattle.vpf_prims.specs.Edges.{EdgesAt, edge_of, edges_finding, HaveWings}
use Rattle.vpf_prims.specs.Reading.{PrimitiveTables}

-- rows without findings have wings among the edges
abbrev pub RowsHaveWings : Type 0
RowsHaveWings = (columns : EdgesAt) (most : Ranges) (rows : List Row) → edges_finding columns most rows ≡ None → HaveWings most.edges (map (edge_of columns) rows)

-- each row has a cell for each column
abbrev pub IsFilled : Grid → Type 0
IsFilled grid = AllByRecursion (λ (row : Row). length row ≡ length grid.head.columns) grid.rows

-- the rows of all tables of a tile are whole
pub record AreFilled (t : PrimitiveTables) : Type 0 where
  pub edg : IsFilled t.edg
  pub fac : IsFilled t.fac
  pub rng : IsFilled t.rng
  pub cnd : IsFilled t.cnd
  pub end : (grid : Grid) → t.end ≡ Some grid → IsFilled grid
