-- The tables of a tiled library as they are written: each has the header of the coverage's own table, with other kinds for ids and references,
-- and its rows are those of the same primitives with new ids and references; every other value stays (MIL-STD-2407, 5.2.2, primitives, and
-- 5.2.3, tiled coverages and cross-tile topology).
use Rattle.std.specs.Prelude.{◌≡◌, ℕ, ◌==◌, List, [], ◌∷◌, codes, Option, None, Some, Result, Ok, Err}
use Rattle.vpf_triplet.specs.declared.kinds.Kind.TheVariants as kinds
use Rattle.vpf_value.specs.Values.{TripletOf}
use Rattle.vpf_head.specs.Head.{Col}
use Rattle.vpf_table.specs.Grid.{Grid}
use Rattle.vpf_write.specs.Writing.{Writes}
use Rattle.vpf_write.specs.declared.writing.WriteError.{WriteError}
use Rattle.vpf_write.specs.declared.writing.Written.{Written}
use Rattle.vpf_write.specs.declared.revise.changes.NewKind.{NewKind}
use Rattle.vpf_write.specs.Revise.Revising.{NewValue, revised}
use Rattle.vpf_primitive_tables.specs.TableForms.Forms.{EdgeValues, edge_kinds_of, edge_values_of, id_kinds, named_value, natural_value, pair_kinds, pair_values, rings_like, table_like}
use Rattle.vpf_prims.specs.Lists.{kth, first_item}
use Rattle.vpf_prims.specs.Primitives.{EdgePrimitive, Primitives}
use Rattle.vpf_tiling.specs.Ranks.{numbered}
use Rattle.vpf_tiling.specs.Presence.{containing_face, held_entities, held_faces, local_face, present_edges, present_nodes}
use Rattle.vpf_tiling.specs.Tiles.{first_edge_at, tiled_edge, tiled_edges, tiled_rings}

-- the table of tiles
abbrev pub tiles_made : Grid → Grid
tiles_made grid = table_like grid id_kinds (numbered (λ k row. revised (named_value grid.head.columns (codes "id") (natural_value k)) row) grid.rows)

-- the six references of edges are triplet ids
abbrev pub edge_kinds : List Col → List NewKind
edge_kinds columns = edge_kinds_of kinds.K columns

-- the references of an edge as values
abbrev pub id_values : EdgePrimitive → EdgeValues
id_values e = record {
  start_node = TripletOf e.start_node;
  end_node = TripletOf e.end_node;
  right_face = TripletOf e.right_face;
  left_face = TripletOf e.left_face;
  right_edge = TripletOf e.right_edge;
  left_edge = TripletOf e.left_edge;
}

-- the new values of edge k
abbrev pub edge_values : List Col → ℕ → EdgePrimitive → List NewValue
edge_values columns k e = edge_values_of columns k (id_values e)

-- the table of the edges of a tile
abbrev pub edges_made : Grid → Primitives → (ℕ → ℕ) → ℕ → Grid
edges_made grid c plan t =
    table_like grid edge_kinds
    (numbered (λ k e. revised (edge_values grid.head.columns k (tiled_edge c plan t k e)) (kth grid.rows e [])) (present_edges c plan t))

-- a table with one reference column, of these rows of another: what the row of number k, made of the row s, names there
abbrev pub pairs_made : List ℕ → Grid → (ℕ → ℕ → ℕ) → List ℕ → Grid
pairs_made name grid names rows =
    table_like grid (pair_kinds name) (numbered (λ k s. revised (pair_values name grid.head.columns k (names k s)) (kth grid.rows s [])) rows)

-- the faces of a tile: the universe and those that it holds
abbrev pub faces_of_tile : Primitives → (ℕ → ℕ) → ℕ → List ℕ
faces_of_tile c plan t = 1 ∷ held_faces c plan t

-- the table of the faces of a tile, each with its first ring
abbrev pub faces_made : Grid → Primitives → (ℕ → ℕ) → ℕ → Grid
faces_made grid c plan t = pairs_made (codes "ring_ptr") grid (λ k f. first_item (λ r. r.face == k) (tiled_rings c plan t)) (faces_of_tile c plan t)

-- the table of its nodes, each with its first edge
abbrev pub nodes_made : Grid → Primitives → (ℕ → ℕ) → ℕ → Grid
nodes_made grid c plan t = pairs_made (codes "first_edge") grid (λ k n. first_edge_at k (tiled_edges c plan t)) (present_nodes c plan t)

-- the table of its entity nodes, each with its face
abbrev pub entities_made : Grid → Primitives → (ℕ → ℕ) → ℕ → Grid
entities_made grid c plan t = pairs_made (codes "containing_face") grid (λ k n. local_face c plan t (containing_face c n)) (held_entities c plan t)

-- the table of the rings of a tile
abbrev pub rings_made : Grid → Primitives → (ℕ → ℕ) → ℕ → Grid
rings_made grid c plan t = rings_like grid (tiled_rings c plan t)

-- a table is written where there is one to write it like
abbrev pub WritesWhere : Option Grid → (Grid → Grid) → Result (Option Written) WriteError → Type 0
WritesWhere None made result = result ≡ Ok None
WritesWhere (Some grid) made (Ok None) = ⊥
WritesWhere (Some grid) made (Ok (Some written)) = Writes (made grid) (Ok written)
WritesWhere (Some grid) made (Err error) = Writes (made grid) (Err error)
