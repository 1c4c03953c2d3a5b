-- The rows of tiles that a glued coverage is made of, and the tables that it is like.
use Rattle.std.specs.Prelude.{◌≡◌, ℕ, ◌≤◌, true, List, [], Option, Some, flat_map}
use Rattle.std.specs.List.{range_with_len}
use Rattle.std.specs.Option.{option_and_then}
use Rattle.vpf_triplet.specs.declared.kinds.Kind.TheVariants as kinds
use Rattle.vpf_findings.specs.declared.finding.TableName.{TableName}
use Rattle.vpf_head.specs.Inner.Soundness.{IsSound}
use Rattle.vpf_table.specs.Canonical.{FitsRow}
use Rattle.vpf_table.specs.Grid.{Grid, Row}
use Rattle.vpf_prims.specs.Coverages.{CoverageTables, tile_at}
use Rattle.vpf_prims.specs.Libraries.{IsLibrary, library_of}
use Rattle.vpf_prims.specs.Lists.{kth}
use Rattle.vpf_prims.specs.Numbering.{IsNumbered, IsRowOf}
use Rattle.vpf_prims.specs.Primitives.{Library, face_count, has_tables}
use Rattle.vpf_prims.specs.Reading.{PrimitiveTables}
use Rattle.vpf_prims.specs.Tables.{TileTables, table_named}
use Rattle.vpf_numbers.specs.Matching.{HaveColumns}
use Rattle.vpf_write.specs.Revise.Revising.{FitsElsewhere, with_kinds}
use Rattle.vpf_wing.specs.Links.{Beyond}
use Rattle.vpf_primitive_tables.specs.TableForms.Forms.{EdgeValues, edge_kinds_of, edge_values_of, pair_kinds, pair_values}
use Rattle.vpf_glue.specs.GluedTables.Grids.{EntitySource, sources_in_table}

-- the tiles of a coverage are those of a library, all tables have their columns, and rows are numbered
pub record IsRight (c : CoverageTables) : Type 0 where
  pub library : IsLibrary (library_of c)
  pub columns : HaveColumns c
  pub numbered : (t : ℕ) → has_tables (library_of c) t ≡ true → IsNumbered (library_of c) t

-- the table of this name of a tile; none where the tile is empty or has no such table
abbrev pub table_in : CoverageTables → (t : ℕ) → TableName → Option Grid
table_in c t name = option_and_then (λ T. table_named T name) (tile_at c t)

-- this is row k of a table with a sound header, and fits its columns
pub record IsRowIn (grid : Grid) (k : ℕ) (row : Row) : Type 0 where
  pub is : row ≡ kth grid.rows k []
  pub fits : FitsRow grid.head.columns row
  pub sound : IsSound grid.head

-- some tile has this table, whose header is sound
pub record IsOfTile (of : PrimitiveTables → Option Grid) (c : CoverageTables) (like : Grid) : Type 0 where
  pub tile : ℕ
  pub T : TileTables
  pub has : tile_at c tile ≡ Some T
  pub table : of T.tables ≡ Some like
  pub sound : IsSound like.head

-- a row fits a table of edges that is written like this one, but for the cells that get new values
abbrev pub FitsEdges : Grid → Row → Type 0
FitsEdges like row = (k : ℕ) (v : EdgeValues)
    → FitsElsewhere (edge_values_of like.head.columns k v) (with_kinds (edge_kinds_of kinds.I like.head.columns) like.head.columns) row

-- the same of a table with one column of references, which has this name
abbrev pub FitsPairs : List ℕ → Grid → Row → Type 0
FitsPairs name like row = (k n : ℕ)
    → FitsElsewhere (pair_values name like.head.columns k n) (with_kinds (pair_kinds name like.head.columns) like.head.columns) row

-- a face of a tile, other than the universe
pub record IsFaceThere (L : Library) (face : Beyond) : Type 0 where
  pub row : IsRowOf (face_count L face.tile) face.id
  pub other : 2 ≤ face.id

-- the entity nodes of a tile
abbrev pub sources_of : CoverageTables → ℕ → List EntitySource
sources_of c t = sources_in_table t (option_and_then (λ (T : TileTables). T.tables.end) (tile_at c t))

-- those of the tiles before this one
unfoldable pub sources_before : CoverageTables → ℕ → List EntitySource
sources_before c t = flat_map (sources_of c) (range_with_len 0 t)
