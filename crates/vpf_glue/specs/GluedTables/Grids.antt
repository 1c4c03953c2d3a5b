-- The tables of the coverage that the tiles of a library are joined into, as they are written: each has the header of the first tile that has
-- the table, with numbers for ids and references, and its rows are rows of the tiles' tables with new ids and references; every other value
-- stays (MIL-STD-2407, 5.2.2, primitives, and 5.2.3, tiled coverages and cross-tile topology).
use Rattle.std.specs.Prelude.{ℕ, ◌==◌, List, [], ◌∷◌, map, codes, flat_map, Option, None, Some, unwrap_or}
use Rattle.std.specs.Option.{option_and_then, option_map, option_or}
use Rattle.vpf_triplet.specs.declared.kinds.Kind.TheVariants as kinds
use Rattle.vpf_head.specs.Head.{Col}
use Rattle.vpf_table.specs.Grid.{Row, Grid}
use Rattle.vpf_write.specs.Revise.Revising.{revised}
use Rattle.vpf_prims.specs.Coverages.{CoverageTables, tile_at}
use Rattle.vpf_prims.specs.Libraries.{library_of}
use Rattle.vpf_prims.specs.Lists.{first_item, kth}
use Rattle.vpf_prims.specs.Primitives.{EdgePrimitive}
use Rattle.vpf_prims.specs.Reading.{PrimitiveTables, reference_of}
use Rattle.vpf_prims.specs.References.{id_of}
use Rattle.vpf_prims.specs.Tables.{TileTables}
use Rattle.vpf_darts.specs.Darts.{edge_in, tile_in}
use Rattle.vpf_wing.specs.Links.{Beyond, links_of, tail_node}
use Rattle.vpf_cross.specs.CarriedLines.{first_tile}
use Rattle.vpf_tiling.specs.Ranks.{numbered}
use Rattle.vpf_tiling.specs.Tiles.{first_edge_at}
use Rattle.vpf_renumbering.specs.TilingLawsWhole.{Whole, face_here, tiles_in, whole_of}
use Rattle.vpf_renumbering.specs.Glued.{face_number, first_darts, glued_edge, glued_edges, glued_rings, plus_darts, tiles_of_faces}
use Rattle.vpf_primitive_tables.specs.TableForms.Forms.{EdgeValues, edge_kinds_of, edge_values_of, natural_value, pair_kinds, pair_values, rings_like, table_like}
use Rattle.vpf_vectors.specs.Heads.{plan_head}
use Rattle.vpf_vectors.specs.Tables.{pair_table}

-- what is read of the tables of a coverage for gluing
abbrev pub whole_in : CoverageTables → Whole
whole_in c = whole_of (library_of c)

-- row k of a table of tile t, counted from 1; none where the tile is empty
abbrev pub row_in : (PrimitiveTables → Grid) → CoverageTables → (t k : ℕ) → Row
row_in table c t k = unwrap_or (option_map (λ (T : TileTables). kth (table T.tables).rows k []) (tile_at c t)) []

-- the numbers that an edge names, as values
abbrev pub number_values : EdgePrimitive → EdgeValues
number_values e = record {
  start_node = natural_value (id_of e.start_node);
  end_node = natural_value (id_of e.end_node);
  right_face = natural_value (id_of e.right_face);
  left_face = natural_value (id_of e.left_face);
  right_edge = natural_value (id_of e.right_edge);
  left_edge = natural_value (id_of e.left_edge);
}

-- row k of edges, of the + dart d: that of its edge in its tile
abbrev pub glued_edge_row : List Col → CoverageTables → (k d : ℕ) → Row
glued_edge_row columns c k d =
    revised (edge_values_of columns k (number_values (glued_edge (whole_in c) k d))) (row_in (λ (T : PrimitiveTables). T.edg) c (tile_in d) (edge_in d))

-- the table of edges, like this one
abbrev pub glued_edge_grid : Grid → CoverageTables → Grid
glued_edge_grid like c = table_like like (edge_kinds_of kinds.I) (numbered (glued_edge_row like.head.columns c) (plus_darts (whole_in c)))

-- the rows of faces: the universe of this table, and each other face in its tile
abbrev pub face_sources : Grid → CoverageTables → List Row
face_sources like c = kth like.rows 1 [] ∷ map (λ f. row_in (λ (T : PrimitiveTables). T.fac) c f.at.tile f.at.id) (whole_in c).faces

-- row k of faces, which names its first ring
abbrev pub glued_face_row : List Col → CoverageTables → ℕ → Row → Row
glued_face_row columns c k row = revised (pair_values (codes "ring_ptr") columns k (first_item (λ r. r.face == k) (glued_rings (whole_in c)))) row

-- the table of faces
abbrev pub glued_face_grid : Grid → CoverageTables → Grid
glued_face_grid like c = table_like like (pair_kinds (codes "ring_ptr")) (numbered (glued_face_row like.head.columns c) (face_sources like c))

-- the table of rings
abbrev pub glued_ring_grid : Grid → CoverageTables → Grid
glued_ring_grid like c = rings_like like (glued_rings (whole_in c))

-- row k of nodes, of a dart that begins there, which names the first edge at it
abbrev pub glued_node_row : List Col → CoverageTables → (k d : ℕ) → Row
glued_node_row columns c k d =
    revised (pair_values (codes "first_edge") columns k (first_edge_at k (glued_edges (whole_in c))))
    (row_in (λ (T : PrimitiveTables). T.cnd) c (tile_in d) (tail_node (links_of (library_of c)) d))

-- the table of connected nodes
abbrev pub glued_node_grid : Grid → CoverageTables → Grid
glued_node_grid like c = table_like like (pair_kinds (codes "first_edge")) (numbered (glued_node_row like.head.columns c) (first_darts (whole_in c)))

-- an entity node: its face, None for the universe, and its row
pub record EntitySource : Type 0 where
  pub face : Option Beyond
  pub row : Row

-- an entity node of tile t by a row with these columns
abbrev pub entity_source : ℕ → List Col → Row → EntitySource
entity_source t columns row = record { face = face_here t (id_of (reference_of columns (codes "containing_face") row)); row = row }

-- those of tile t; without a table of them there are none
abbrev pub sources_in_table : ℕ → Option Grid → List EntitySource
sources_in_table t None = []
sources_in_table t (Some end) = map (entity_source t end.head.columns) end.rows

-- those of all tiles, in their order
abbrev pub entity_sources : CoverageTables → List EntitySource
entity_sources c = flat_map (λ t. sources_in_table t (option_and_then (λ (T : TileTables). T.tables.end) (tile_at c t))) (tiles_in (library_of c))

-- row k of entity nodes, which names its face
abbrev pub glued_entity_row : List Col → CoverageTables → ℕ → EntitySource → Row
glued_entity_row columns c k e = revised (pair_values (codes "containing_face") columns k (face_number (whole_in c) e.face)) e.row

-- the table of entity nodes
abbrev pub glued_entity_grid : Grid → CoverageTables → Grid
glued_entity_grid like c = table_like like (pair_kinds (codes "containing_face")) (numbered (glued_entity_row like.head.columns c) (entity_sources c))

-- the plan: the tile of each face but the universe
abbrev pub plan_grid : CoverageTables → Grid
plan_grid c = pair_table plan_head 2 (tiles_of_faces (whole_in c))

-- the tables of the first tile that has any
abbrev pub first_tables : CoverageTables → Option PrimitiveTables
first_tables c = option_map (λ (T : TileTables). T.tables) (tile_at c (first_tile (library_of c)))

-- the table of entity nodes that the first of these tiles with one has
abbrev pub first_end : List (Option TileTables) → Option Grid
first_end [] = None
first_end (None ∷ tiles) = first_end tiles
first_end (Some T ∷ tiles) = option_or T.tables.end (first_end tiles)

-- all primitive tables, like those of the first tile
abbrev pub glued_tables : PrimitiveTables → CoverageTables → PrimitiveTables
glued_tables first c = record {
  edg = glued_edge_grid first.edg c;
  fac = glued_face_grid first.fac c;
  rng = glued_ring_grid first.rng c;
  cnd = glued_node_grid first.cnd c;
  end = option_map (λ end. glued_entity_grid end c) (first_end c.tiles);
}
