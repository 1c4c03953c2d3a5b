-- What the rows of the tables of every glued coverage say.
use Rattle.std.specs.Prelude.{◌≡◌, ℕ, List, Some, codes, length}
use Rattle.vpf_triplet.specs.declared.kinds.Kind.TheVariants as kinds
use Rattle.vpf_head.specs.Head.{Col}
use Rattle.vpf_table.specs.Grid.{Grid, Row}
use Rattle.vpf_write.specs.Revise.Revising.{revised, with_kinds}
use Rattle.vpf_prims.specs.Coverages.{CoverageTables, tile_at}
use Rattle.vpf_prims.specs.Inner.Laws.{AreFilled}
use Rattle.vpf_prims.specs.Libraries.{library_of}
use Rattle.vpf_prims.specs.Primitives.{EdgePrimitive}
use Rattle.vpf_prims.specs.Reading.{PrimitiveTables, edge_in_row, entity_in_row, face_in_row, node_in_row, primitives_of, ring_in_row, rows_said}
use Rattle.vpf_prims.specs.References.{plain, reference_in}
use Rattle.vpf_prims.specs.Roles.{ring_roles}
use Rattle.vpf_prims.specs.Suiting.{HasRoles}
use Rattle.vpf_prims.specs.Tables.{TileTables}
use Rattle.vpf_library_files.specs.Inner.Loading.Laws.{AreNamedApart}
use Rattle.vpf_numbers.specs.Matching.{HaveColumns}
use Rattle.vpf_cross.specs.Agreeing.{LibraryAgrees}
use Rattle.vpf_tiling.specs.Ranks.{numbered}
use Rattle.vpf_tiling.specs.Tiles.{numbered_ring}
use Rattle.vpf_renumbering.specs.Glued.{glued, glued_edges, glued_rings, whole_coverage}
use Rattle.vpf_primitive_tables.specs.TableForms.Forms.{EdgeValues, edge_kinds_of, edge_values_of, pair_kinds, pair_values}
use Rattle.vpf_glue.specs.GluedTables.Grids.{first_tables, glued_edge_grid, glued_face_grid, glued_node_grid, glued_ring_grid, glued_tables, whole_in}
use Rattle.vpf_glue.specs.Inner.GluedTables.Laws.{AreOfTiles}

-- edge k with these references, and with the mark and the carried cells of another
abbrev pub edge_with : ℕ → EdgeValues → EdgePrimitive → EdgePrimitive
edge_with k v old = record {
  id = Some k;
  start_node = reference_in v.start_node;
  end_node = reference_in v.end_node;
  right_face = reference_in v.right_face;
  left_face = reference_in v.left_face;
  right_edge = reference_in v.right_edge;
  left_edge = reference_in v.left_edge;
  mark = old.mark;
  carried = old.carried;
}

-- the columns of a glued table of edges, like this one
abbrev pub glued_edge_columns : Grid → List Col
glued_edge_columns like = with_kinds (edge_kinds_of kinds.I like.head.columns) like.head.columns

-- the columns of a glued table with references in the column of this name
abbrev pub pair_columns : List ℕ → Grid → List Col
pair_columns name like = with_kinds (pair_kinds name like.head.columns) like.head.columns

-- a row of edges of any tile, with a new number and new references
abbrev pub EdgeRowsSay : Type 0
EdgeRowsSay = (c : CoverageTables) (like there : Grid) → AreOfTiles (λ T. Some T.edg) c like there → (row : Row) → length row ≡ length there.head.columns
    → (k : ℕ) (v : EdgeValues)
    → edge_in_row (glued_edge_columns like) (revised (edge_values_of like.head.columns k v) row) ≡ edge_with k v (edge_in_row there.head.columns row)

-- a row of faces
abbrev pub FaceRowsSay : Type 0
FaceRowsSay = (c : CoverageTables) (like there : Grid) → AreOfTiles (λ T. Some T.fac) c like there → (row : Row) → length row ≡ length there.head.columns
    → (k n : ℕ) → face_in_row (pair_columns (codes "ring_ptr") like) (revised (pair_values (codes "ring_ptr") like.head.columns k n) row)
    ≡ record { id = Some k; ring_ptr = plain n; carried = (face_in_row there.head.columns row).carried }

-- a row of connected nodes
abbrev pub NodeRowsSay : Type 0
NodeRowsSay = (c : CoverageTables) (like there : Grid) → AreOfTiles (λ T. Some T.cnd) c like there → (row : Row) → length row ≡ length there.head.columns
    → (k n : ℕ) → node_in_row (pair_columns (codes "first_edge") like) (revised (pair_values (codes "first_edge") like.head.columns k n) row)
    ≡ record { id = Some k; first_edge = plain n; carried = (node_in_row there.head.columns row).carried }

-- a row of entity nodes
abbrev pub EntityRowsSay : Type 0
EntityRowsSay = (c : CoverageTables) (like there : Grid) → AreOfTiles (λ T. T.end) c like there → (row : Row) → length row ≡ length there.head.columns
    → (k n : ℕ) → entity_in_row (pair_columns (codes "containing_face") like) (revised (pair_values (codes "containing_face") like.head.columns k n) row)
    ≡ record { id = Some k; containing_face = plain n; carried = (entity_in_row there.head.columns row).carried }

-- a coverage that agrees, whose tables are whole and have no two columns of one name, and the tables of its first tile
pub record AreJoined (c : CoverageTables) (first : PrimitiveTables) : Type 0 where
  pub columns : HaveColumns c
  pub whole : (t : ℕ) (T : TileTables) → tile_at c t ≡ Some T → AreFilled T.tables × AreNamedApart T.tables
  pub agrees : LibraryAgrees (library_of c)
  pub tables : first_tables c ≡ Some first

-- the table of edges says the edges of the glued coverage
abbrev pub EdgesAreRead : Type 0
EdgesAreRead = (c : CoverageTables) (first : PrimitiveTables) → AreJoined c first
    → rows_said edge_in_row (glued_edge_grid first.edg c) ≡ glued_edges (whole_in c)

-- the table of faces says its faces
abbrev pub FacesAreRead : Type 0
FacesAreRead = (c : CoverageTables) (first : PrimitiveTables) → AreJoined c first
    → rows_said face_in_row (glued_face_grid first.fac c) ≡ (whole_coverage (whole_in c)).faces

-- the table of connected nodes says its nodes
abbrev pub NodesAreRead : Type 0
NodesAreRead = (c : CoverageTables) (first : PrimitiveTables) → AreJoined c first
    → rows_said node_in_row (glued_node_grid first.cnd c) ≡ (whole_coverage (whole_in c)).nodes

-- all primitive tables say the glued coverage
abbrev pub GluedTablesAreRead : Type 0
GluedTablesAreRead = (c : CoverageTables) (first : PrimitiveTables) → AreJoined c first → primitives_of (glued_tables first c) ≡ glued (library_of c)

-- the table of rings says the rings of the glued coverage
abbrev pub RingsAreRead : Type 0
RingsAreRead = (c : CoverageTables) (like : Grid) → HasRoles ring_roles like
    → rows_said ring_in_row (glued_ring_grid like c) ≡ numbered numbered_ring (glued_rings (whole_in c))
