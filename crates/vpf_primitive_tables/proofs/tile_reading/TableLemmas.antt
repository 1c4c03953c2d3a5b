-- What the tables of tiles say is what the tiled library has in those tiles.
use Rattle.std.proofs.Common.{[], ◌≡◌, ◌==◌, ℕ, Bool, true, false, cond, List, ◌∷◌, length, codes, Option, Some, None, refl, sym, ap, ◌∙◌, subst, arith}
use Rattle.std.specs.List.{AllByRecursion}
use Rattle.std.specs.Option.{option_map, unwrap_or}
use Rattle.std.proofs.lemmas.List.{length-map}
use Rattle.vpf_head.specs.Head.{Col}
use Rattle.vpf_table.specs.Grid.{Grid, Row}
use Rattle.vpf_write.specs.Revise.Revising.{with_kinds, revised}
use Rattle.vpf_prims.specs.Coverages.{CoverageTables, tile_at}
use Rattle.vpf_prims.specs.Inner.Laws.{AreFilled, IsFilled}
use Rattle.vpf_prims.specs.Libraries.{library_of, primitives_in}
use Rattle.vpf_prims.specs.Lists.{first_item, kth}
use Rattle.vpf_prims.specs.Numbering.{IsRowOf}
use Rattle.vpf_prims.specs.Primitives.{Primitives, EntityPrimitive, absent_edge, absent_entity, absent_face, absent_node, tile_entities, untiled}
use Rattle.vpf_prims.specs.Reading.{PrimitiveTables, edge_in_row, entity_in_row, face_in_row, node_in_row, primitives_of, ring_in_row, rows_said}
use Rattle.vpf_prims.specs.References.{plain}
use Rattle.vpf_prims.specs.Roles.{entity_roles}
use Rattle.vpf_prims.specs.Suiting.{HasColumns, HasRoles}
use Rattle.vpf_prims.specs.Tables.{TileTables}
use Rattle.vpf_wing.specs.WellFormed.{IsWellFormed}
use Rattle.vpf_tiling.specs.Presence.{containing_face, has_edge, has_node, held_entities, held_faces, holds_entity, holds_face, local_face, present_edges, present_nodes}
use Rattle.vpf_tiling.specs.Ranks.{numbered}
use Rattle.vpf_tiling.specs.Tiles.{Ring, first_edge_at, is_made, numbered_entity, numbered_face, numbered_node, numbered_ring, tiled_edge, tiled_edges, tiled_library, tiled_primitives, tiled_rings}
use Rattle.vpf_primitive_tables.specs.TableForms.Forms.{bare_row, pair_kinds, pair_values, ring_kinds, ring_values}
use Rattle.vpf_primitive_tables.specs.TileTables.Grids.{edge_kinds, edge_values, edges_made, entities_made, faces_made, nodes_made, rings_made}
use Rattle.vpf_primitive_tables.specs.Inner.TileReading.Cuts.{IsCutInto, tables_of_tile}
use Rattle.vpf_primitive_tables.proofs.tile_reading.NumberLemmas.{rows_passing}
use Rattle.vpf_primitive_tables.specs.Inner.TileReading.NumberLaws.{kth_has, kth_map, read_numbered}
use Rattle.vpf_primitive_tables.proofs.tile_reading.RowLemmas.{edge_like, edge_said}
use Rattle.vpf_primitive_tables.specs.Inner.TileReading.RowLaws.{entity_said, face_said, node_said, ring_row_said as ring_said}

-- the row of a number is whole
whole_row : (grid : Grid) → IsFilled grid → (k : ℕ) → IsRowOf (length grid.rows) k → length (kth grid.rows k []) ≡ length grid.head.columns
whole_row grid filled k r = kth_has (λ (row : Row). length row ≡ length grid.head.columns) grid.rows k [] filled r

-- a row that says something is a row of the table
row_of : {R : Type 0} (read : List Col → Row → R) (grid : Grid) (k : ℕ) → IsRowOf (length (rows_said read grid)) k → IsRowOf (length grid.rows) k
row_of read grid k r = subst (λ (n : ℕ). IsRowOf n k) (length-map grid.rows (read grid.head.columns)) r

-- the edges of a tile
pub edges_read : (T : PrimitiveTables) (plan : ℕ → ℕ) (t : ℕ) → HasColumns T → AreFilled T
    → rows_said edge_in_row (edges_made T.edg (primitives_of T) plan t) ≡ tiled_edges (primitives_of T) plan t
edges_read T plan t has filled =
    let c : Primitives = primitives_of T in
    let columns : List Col = T.edg.head.columns in
    read_numbered (IsRowOf (length c.edges)) (edge_in_row (with_kinds (edge_kinds columns) columns))
    (λ k e. revised (edge_values columns k (tiled_edge c plan t k e)) (kth T.edg.rows e [])) (tiled_edge c plan t) (λ k e r.
    edge_said columns (edge_kinds columns) k (tiled_edge c plan t k e) (kth T.edg.rows e []) has.edg
    (whole_row T.edg filled.edg e (row_of edge_in_row T.edg e r))
    ∙ ap (edge_like k (tiled_edge c plan t k e)) (sym (kth_map (edge_in_row columns) T.edg.rows e [] absent_edge (row_of edge_in_row T.edg e r)))) 1
    (present_edges c plan t) (rows_passing (has_edge c plan t) (length c.edges))

-- its faces: the universe is a face of each coverage
pub faces_read : (T : PrimitiveTables) (plan : ℕ → ℕ) (t : ℕ) → HasColumns T → AreFilled T → IsWellFormed (primitives_of T)
    → rows_said face_in_row (faces_made T.fac (primitives_of T) plan t)
    ≡ numbered (numbered_face (primitives_of T) (tiled_rings (primitives_of T) plan t)) (1 ∷ held_faces (primitives_of T) plan t)
faces_read T plan t has filled well =
    let c : Primitives = primitives_of T in
    let columns : List Col = T.fac.head.columns in
    let first = λ (k : ℕ). first_item (λ (r : Ring). r.face == k) (tiled_rings c plan t) in
    read_numbered (IsRowOf (length c.faces)) (face_in_row (with_kinds (pair_kinds (codes "ring_ptr") columns) columns))
    (λ k f. revised (pair_values (codes "ring_ptr") columns k (first k)) (kth T.fac.rows f [])) (numbered_face c (tiled_rings c plan t)) (λ k f r.
    face_said columns (pair_kinds (codes "ring_ptr") columns) k (first k) (kth T.fac.rows f []) has.fac
    (whole_row T.fac filled.fac f (row_of face_in_row T.fac f r))
    ∙ ap (λ old. record { id = Some k; ring_ptr = plain (first k); carried = old.carried })
    (sym (kth_map (face_in_row columns) T.fac.rows f [] absent_face (row_of face_in_row T.fac f r)))) 1
    (1 ∷ held_faces c plan t) ((omega arith, well.numbered.universe), rows_passing (holds_face c plan t) (length c.faces))

-- its rings
pub rings_read : (T : PrimitiveTables) (plan : ℕ → ℕ) (t : ℕ) → HasColumns T
    → rows_said ring_in_row (rings_made T.rng (primitives_of T) plan t) ≡ numbered numbered_ring (tiled_rings (primitives_of T) plan t)
rings_read T plan t has =
    let c : Primitives = primitives_of T in
    let columns : List Col = T.rng.head.columns in
    read_numbered (λ r. Unit {0}) (ring_in_row (with_kinds (ring_kinds columns) columns))
    (λ k r. revised (ring_values columns k r) (bare_row columns)) numbered_ring (λ k r u.
    ring_said columns (ring_kinds columns) k r (bare_row columns) has.rng (length-map columns _)) 1 (tiled_rings c plan t) (all_rings (tiled_rings c plan t))
  where
    all_rings : (rings : List Ring) → AllByRecursion (λ r. Unit {0}) rings
    all_rings [] = tt
    all_rings (r ∷ rings) = (tt, all_rings rings)

-- its connected nodes
pub nodes_read : (T : PrimitiveTables) (plan : ℕ → ℕ) (t : ℕ) → HasColumns T → AreFilled T
    → rows_said node_in_row (nodes_made T.cnd (primitives_of T) plan t)
    ≡ numbered (numbered_node (primitives_of T) (tiled_edges (primitives_of T) plan t)) (present_nodes (primitives_of T) plan t)
nodes_read T plan t has filled =
    let c : Primitives = primitives_of T in
    let columns : List Col = T.cnd.head.columns in
    let first = λ (k : ℕ). first_edge_at k (tiled_edges c plan t) in
    read_numbered (IsRowOf (length c.nodes)) (node_in_row (with_kinds (pair_kinds (codes "first_edge") columns) columns))
    (λ k n. revised (pair_values (codes "first_edge") columns k (first k)) (kth T.cnd.rows n [])) (numbered_node c (tiled_edges c plan t)) (λ k n r.
    node_said columns (pair_kinds (codes "first_edge") columns) k (first k) (kth T.cnd.rows n []) has.cnd
    (whole_row T.cnd filled.cnd n (row_of node_in_row T.cnd n r))
    ∙ ap (λ old. record { id = Some k; first_edge = plain (first k); carried = old.carried })
    (sym (kth_map (node_in_row columns) T.cnd.rows n [] absent_node (row_of node_in_row T.cnd n r)))) 1
    (present_nodes c plan t) (rows_passing (has_node c plan t) (length c.nodes))

-- those of a table of entity nodes
grid_read : (c : Primitives) (grid : Grid) (plan : ℕ → ℕ) (t : ℕ) → HasRoles entity_roles grid → IsFilled grid
    → tile_entities (untiled c) 0 ≡ rows_said entity_in_row grid
    → rows_said entity_in_row (entities_made grid c plan t) ≡ numbered (numbered_entity c plan t (rows_said entity_in_row grid)) (held_entities c plan t)
grid_read c grid plan t has filled is =
    let columns : List Col = grid.head.columns in
    let face = λ (n : ℕ). local_face c plan t (containing_face c n) in
    let row = λ (n : ℕ) (r : IsRowOf (length (tile_entities (untiled c) 0)) n).
    row_of entity_in_row grid n (subst (λ (xs : List EntityPrimitive). IsRowOf (length xs) n) is r) in
    read_numbered (IsRowOf (length (tile_entities (untiled c) 0))) (entity_in_row (with_kinds (pair_kinds (codes "containing_face") columns) columns))
    (λ k n. revised (pair_values (codes "containing_face") columns k (face n)) (kth grid.rows n []))
    (numbered_entity c plan t (rows_said entity_in_row grid)) (λ k n r.
    entity_said columns (pair_kinds (codes "containing_face") columns) k (face n) (kth grid.rows n []) has (whole_row grid filled n (row n r))
    ∙ ap (λ old. record { id = Some k; containing_face = plain (face n); carried = old.carried })
    (sym (kth_map (entity_in_row columns) grid.rows n [] absent_entity (row n r)))) 1
    (held_entities c plan t) (rows_passing (holds_entity c plan t) (length (tile_entities (untiled c) 0)))

-- the same where there may be no table
entities_by : (T : PrimitiveTables) (plan : ℕ → ℕ) (t : ℕ) → HasColumns T → AreFilled T → (o : Option Grid) → T.end ≡ o
    → option_map (rows_said entity_in_row) (option_map (λ grid. entities_made grid (primitives_of T) plan t) o)
    ≡ option_map (λ entities. numbered (numbered_entity (primitives_of T) plan t entities) (held_entities (primitives_of T) plan t))
    (option_map (rows_said entity_in_row) o)
entities_by T plan t has filled None e = refl
entities_by T plan t has filled (Some grid) e =
    ap Some (grid_read (primitives_of T) grid plan t (has.end grid e) (filled.end grid e)
    (ap (λ (o : Option Grid). unwrap_or (option_map (rows_said entity_in_row) o) []) e))

-- its entity nodes, where there is a table of them
pub entities_read : (T : PrimitiveTables) (plan : ℕ → ℕ) (t : ℕ) → HasColumns T → AreFilled T
    → option_map (rows_said entity_in_row) (option_map (λ grid. entities_made grid (primitives_of T) plan t) T.end)
    ≡ option_map (λ entities. numbered (numbered_entity (primitives_of T) plan t entities) (held_entities (primitives_of T) plan t)) (primitives_of T).entities
entities_read T plan t has filled = entities_by T plan t has filled T.end refl

-- all tables of a tile
pub tables_read : (T : PrimitiveTables) (plan : ℕ → ℕ) (t : ℕ) → HasColumns T → AreFilled T → IsWellFormed (primitives_of T)
    → primitives_of (tables_of_tile T plan t) ≡ tiled_primitives (primitives_of T) plan t
tables_read T plan t has filled well = λ i. record {
  edges = edges_read T plan t has filled i;
  faces = faces_read T plan t has filled well i;
  rings = rings_read T plan t has i;
  nodes = nodes_read T plan t has filled i;
  entities = entities_read T plan t has filled i;
}

-- what a tile says is what its tables say
in_tables : (o : Option TileTables) → primitives_in o ≡ option_map primitives_of (option_map (λ (tile : TileTables). tile.tables) o)
in_tables None = refl
in_tables (Some tile) = refl

-- a tile without tables says nothing
read_if_any : (b : Bool) (tables : PrimitiveTables) (said : Primitives) → primitives_of tables ≡ said
    → option_map primitives_of (cond b (Some tables) None) ≡ cond b (Some said) None
read_if_any true tables said e = ap Some e
read_if_any false tables said e = refl

-- all tiles
pub library_read : (T : PrimitiveTables) (plan : ℕ → ℕ) (tiles : ℕ) (c : CoverageTables) → HasColumns T → AreFilled T → IsWellFormed (primitives_of T)
    → IsCutInto T plan tiles c → library_of c ≡ tiled_library (primitives_of T) plan tiles
library_read T plan tiles c has filled well cut =
    let tile = λ (t : ℕ). in_tables (tile_at c t) ∙ ap (option_map primitives_of) (cut.at t)
    ∙ read_if_any (is_made (primitives_of T) plan tiles t) (tables_of_tile T plan t) (tiled_primitives (primitives_of T) plan t)
    (tables_read T plan t has filled well) in
    λ i. record { is_tiled = cut.tiled i; last = cut.last i; tile = λ t. tile t i }
