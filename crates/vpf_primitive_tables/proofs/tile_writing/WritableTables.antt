-- The tables of a tile are writable.
use Rattle.std.proofs.Common.{[], ◌≡◌, ℕ, ◌+◌, ◌<◌, ◌≤◌, ◌^◌, Bool, unwrap_or, List, ◌∷◌, length, codes, Option, Some, None, refl, ap, ◌∙◌, subst, arith}
use Rattle.std.specs.Prelude.{filter, ◌==◌}
use Rattle.std.specs.List.{AllByRecursion}
use Rattle.std.specs.Option.{option_map}
use Rattle.std.proofs.lemmas.List.{length-map}
use Rattle.vpf_base.specs.Limits.{most_rows}
use Rattle.vpf_triplet.specs.declared.kinds.Kind.TheVariants as kinds
use Rattle.vpf_head.specs.Head.{Col}
use Rattle.vpf_head.specs.Inner.Soundness.{IsSound}
use Rattle.vpf_table.specs.Canonical.{FitsRow, IsWritable}
use Rattle.vpf_table.specs.Grid.{Grid, Row}
use Rattle.vpf_prims.specs.Lists.{first_item, kth}
use Rattle.vpf_prims.specs.Numbering.{IsRowOf}
use Rattle.vpf_prims.specs.Primitives.{EntityPrimitive, Primitives, tile_entities, untiled}
use Rattle.vpf_prims.specs.Reading.{PrimitiveTables, edge_in_row, entity_in_row, face_in_row, node_in_row, primitives_of, rows_said}
use Rattle.vpf_prims.specs.Suiting.{HasColumns}
use Rattle.vpf_wing.specs.Inner.DartLaws.{none_is_some, same_some}
use Rattle.vpf_write.specs.declared.revise.changes.NewKind.{NewKind}
use Rattle.vpf_write.specs.Revise.Revising.{head_with_kinds, with_kinds}
use Rattle.vpf_tiling.specs.Presence.{containing_face, has_edge, has_node, held_entities, holds_entity, holds_face, present_edges, present_nodes}
use Rattle.vpf_tiling.specs.Ranks.{numbered, up_to}
use Rattle.vpf_tiling.specs.Tiles.{Ring, first_edge_at, tiled_edge, tiled_edges, tiled_rings}
use Rattle.vpf_primitive_tables.specs.TableForms.Forms.{pair_kinds, ring_kinds}
use Rattle.vpf_primitive_tables.specs.TileTables.Grids.{edge_kinds, edges_made, entities_made, faces_made, faces_of_tile, nodes_made, pairs_made, rings_made}
use Rattle.vpf_primitive_tables.specs.Inner.TableForms.Places.{AreEdgePlaces, ArePairPlaces, AreRingPlaces}
use Rattle.vpf_primitive_tables.proofs.table_forms.CountedRows.{kth_all}
use Rattle.vpf_primitive_tables.specs.Inner.TableForms.CountedLaws.{length-numbered}
use Rattle.vpf_primitive_tables.proofs.table_forms.NewCellLemmas.{edge_kinds_are, kind_at, reference_kinds, pair_kinds_are, ring_kinds_are}
use Rattle.vpf_primitive_tables.specs.Inner.TileReading.Cuts.{tables_of_tile}
use Rattle.vpf_primitive_tables.specs.Inner.TileWriting.Laws.{TilesAreWritable}
use Rattle.vpf_primitive_tables.specs.Inner.TileWriting.Writable.{AreWritable, HaveFewRows}
use Rattle.vpf_primitive_tables.proofs.tile_writing.FittingRows.{MadeLaws, edge_row, numbered_all, pair_row, ring_row}
use Rattle.vpf_primitive_tables.proofs.tile_writing.PlacedColumns.{HasEdgePlaces, HasPairPlaces, HasRingPlaces, edge_places, entity_places, face_places, node_places, ring_places}
use Rattle.vpf_primitive_tables.proofs.tile_writing.SmallNumbers.{IsPassing, all_passing, first_item_few}
use Rattle.vpf_primitive_tables.proofs.tile_writing.SmallReferences.{IsFew, IsSmallRing, face_small, rings_small, tiled_edge_small}
use Rattle.vpf_primitive_tables.proofs.tile_writing.SoundKinds.{TakesRows, shown_sound}

-- ---- tables with one column of references

pair_head : MadeLaws → (name : List ℕ) (grid : Grid) → HasPairPlaces name grid.head.columns → IsSound grid.head
    → IsSound (head_with_kinds (pair_kinds name grid.head.columns) grid.head)
pair_head l name grid p sound =
    let a : ArePairPlaces name grid.head.columns p.places = p.are in
    let news : List NewKind = kind_at p.places.id kinds.I ∷ kind_at p.places.reference kinds.I ∷ [] in
    let takes : AllByRecursion (TakesRows grid.head.columns) news =
    (record { one = a.id.one; rows = refl }, (record { one = a.reference.one; rows = refl }, tt)) in
    shown_sound l.sound l.places (pair_kinds name grid.head.columns) news grid.head (pair_kinds_are name grid.head.columns p.places a) takes sound

-- where each row names a small number
pairs_writable : MadeLaws → (name : List ℕ) (grid : Grid) (names : ℕ → ℕ → ℕ) (rows : List ℕ) → HasPairPlaces name grid.head.columns → IsWritable grid
    → length rows < 2 ^ 31
    → AllByRecursion (IsRowOf (length grid.rows)) rows → ((k s : ℕ) → names k s < 2 ^ 31) → IsWritable (pairs_made name grid names rows)
pairs_writable l name grid names rows p writable few all small = record {
  sound = pair_head l name grid p writable.sound;
  fits = numbered_all (FitsRow (with_kinds (pair_kinds name grid.head.columns) grid.head.columns)) (IsRowOf (length grid.rows)) _ rows all
      (λ k s most row. pair_row l name grid.head.columns p.places k (names k s) (kth grid.rows s []) p.are (omega arith) (small k s)
      (kth_all (FitsRow grid.head.columns) grid.rows s [] row writable.fits));
}

-- the numbers to the last that pass are numbers of rows
passing_rows : (p : ℕ → Bool) (last : ℕ) (xs : List ℕ) → AllByRecursion (IsPassing p last) xs → AllByRecursion (IsRowOf last) xs
passing_rows p last [] all = tt
passing_rows p last (x ∷ xs) all = (all.0.row, passing_rows p last xs all.1)

-- of as many rows as a table has
rows_of : (p : ℕ → Bool) (last many : ℕ) → last ≡ many → AllByRecursion (IsRowOf many) (filter p (up_to last))
rows_of p last many e =
    subst (λ (many : ℕ). AllByRecursion (IsRowOf many) (filter p (up_to last))) e (passing_rows p last (filter p (up_to last)) (all_passing p last))

-- ---- what a tile is made of

-- the tables of a coverage that can be written, and a tile of its plan whose tables have few rows
pub record IsMadeOf (T : PrimitiveTables) (plan : ℕ → ℕ) (t : ℕ) : Type 0 where
  pub tiles : ℕ
  pub columns : HasColumns T
  pub writable : AreWritable T
  pub few : IsFew (primitives_of T) plan tiles
  pub made : HaveFewRows (tables_of_tile T plan t)

-- most rows are below 2^31
few_rows : (n : ℕ) → n ≤ most_rows → n + 1 < 2 ^ 31
few_rows n h = omega arith

-- how many rows a table with numbers has
made_few : {X : Type 0} (row : ℕ → X → Row) (xs : List X) → length (numbered row xs) ≤ most_rows → length xs + 1 < 2 ^ 31
made_few row xs h = few_rows (length xs) (subst (λ (n : ℕ). n ≤ most_rows) (length-numbered row xs) h)

-- the table of faces
faces_writable : MadeLaws → (T : PrimitiveTables) (plan : ℕ → ℕ) (t : ℕ) → IsMadeOf T plan t → IsWritable (faces_made T.fac (primitives_of T) plan t)
faces_writable l T plan t m =
    let c : Primitives = primitives_of T in
    let rows : List ℕ = faces_of_tile c plan t in
    let many : length c.faces ≡ length T.fac.rows = length-map T.fac.rows (face_in_row T.fac.head.columns) in
    let universe : 1 ≤ length c.faces = m.few.tileable.well_formed.numbered.universe in
    let first : 1 ≤ length T.fac.rows = subst (λ (n : ℕ). 1 ≤ n) many universe in
    let low : 1 ≤ 1 = omega arith in
    let all : AllByRecursion (IsRowOf (length T.fac.rows)) rows =
    ((low, first), rows_of (holds_face c plan t) (length c.faces) (length T.fac.rows) many) in
    let few : length rows + 1 < 2 ^ 31 = made_few _ rows m.made.fac in
    let rings : length (tiled_rings c plan t) + 1 < 2 ^ 31 = made_few _ (tiled_rings c plan t) m.made.rng in
    let names : ℕ → ℕ → ℕ = λ k s. first_item (λ (r : Ring). r.face == k) (tiled_rings c plan t) in
    let small : (k s : ℕ) → names k s < 2 ^ 31 = λ k s.
    (let most : names k s ≤ length (tiled_rings c plan t) + 1 = first_item_few (λ (r : Ring). r.face == k) (tiled_rings c plan t) in omega arith) in
    pairs_writable l (codes "ring_ptr") T.fac names rows (face_places T.fac m.writable.fac.sound m.columns.fac) m.writable.fac (omega arith) all small

-- the table of nodes
nodes_writable : MadeLaws → (T : PrimitiveTables) (plan : ℕ → ℕ) (t : ℕ) → IsMadeOf T plan t → IsWritable (nodes_made T.cnd (primitives_of T) plan t)
nodes_writable l T plan t m =
    let c : Primitives = primitives_of T in
    let rows : List ℕ = present_nodes c plan t in
    let many : length c.nodes ≡ length T.cnd.rows = length-map T.cnd.rows (node_in_row T.cnd.head.columns) in
    let all : AllByRecursion (IsRowOf (length T.cnd.rows)) rows = rows_of (has_node c plan t) (length c.nodes) (length T.cnd.rows) many in
    let few : length rows + 1 < 2 ^ 31 = made_few _ rows m.made.cnd in
    let present : length (present_edges c plan t) + 1 < 2 ^ 31 = made_few _ (present_edges c plan t) m.made.edg in
    let edges : length (tiled_edges c plan t) ≡ length (present_edges c plan t) = length-numbered (tiled_edge c plan t) (present_edges c plan t) in
    let names : ℕ → ℕ → ℕ = λ k s. first_edge_at k (tiled_edges c plan t) in
    let small : (k s : ℕ) → names k s < 2 ^ 31 = λ k s.
    (let most : names k s ≤ length (tiled_edges c plan t) + 1 = first_item_few _ (tiled_edges c plan t) in omega arith) in
    pairs_writable l (codes "first_edge") T.cnd names rows (node_places T.cnd m.writable.cnd.sound m.columns.cnd) m.writable.cnd (omega arith) all small

-- the table of entity nodes
entities_writable : MadeLaws → (T : PrimitiveTables) (plan : ℕ → ℕ) (t : ℕ) → IsMadeOf T plan t → (grid : Grid) → T.end ≡ Some grid
    → IsWritable (entities_made grid (primitives_of T) plan t)
entities_writable l T plan t m grid there =
    let c : Primitives = primitives_of T in
    let rows : List ℕ = held_entities c plan t in
    let nodes : List EntityPrimitive = tile_entities (untiled c) 0 in
    let many : length nodes ≡ length grid.rows =
    ap (λ (o : Option Grid). length (unwrap_or (option_map (rows_said entity_in_row) o) [])) there ∙ length-map grid.rows (entity_in_row grid.head.columns) in
    let all : AllByRecursion (IsRowOf (length grid.rows)) rows = rows_of (holds_entity c plan t) (length nodes) (length grid.rows) many in
    let made : Grid = entities_made grid c plan t in
    let few : length rows + 1 < 2 ^ 31 = made_few _ rows (m.made.end made (ap (option_map (λ grid. entities_made grid c plan t)) there)) in
    let writable : IsWritable grid = m.writable.end grid there in
    pairs_writable l (codes "containing_face") grid _ rows (entity_places grid writable.sound (m.columns.end grid there)) writable (omega arith) all
    (λ k s. face_small c plan m.tiles m.few t (containing_face c s))

-- ---- rings and edges

-- the table of rings
rings_writable : MadeLaws → (T : PrimitiveTables) (plan : ℕ → ℕ) (t : ℕ) → IsMadeOf T plan t → IsWritable (rings_made T.rng (primitives_of T) plan t)
rings_writable l T plan t m =
    let c : Primitives = primitives_of T in
    let columns : List Col = T.rng.head.columns in
    let sound : IsSound T.rng.head = m.writable.rng.sound in
    let p : HasRingPlaces columns = ring_places T.rng sound m.columns.rng in
    let a : AreRingPlaces columns p.places = p.are in
    let news : List NewKind = kind_at p.places.id kinds.I ∷ kind_at p.places.face kinds.I ∷ kind_at p.places.start_edge kinds.I ∷ [] in
    let takes : AllByRecursion (TakesRows columns) news =
    (record { one = a.id.one; rows = refl }, (record { one = a.face.one; rows = refl }, (record { one = a.start_edge.one; rows = refl }, tt))) in
    let few : length (tiled_rings c plan t) + 1 < 2 ^ 31 = made_few _ (tiled_rings c plan t) m.made.rng in
    record {
      sound = shown_sound l.sound l.places (ring_kinds columns) news T.rng.head (ring_kinds_are columns p.places a) takes sound;
      fits = numbered_all (FitsRow (with_kinds (ring_kinds columns) columns)) IsSmallRing _ (tiled_rings c plan t) (rings_small c plan m.tiles m.few t)
          (λ k r most small. ring_row l columns p.places k r sound.distinct m.columns.bare a (omega arith) small.face small.edge);
    }

-- the table of edges
edges_writable : MadeLaws → (T : PrimitiveTables) (plan : ℕ → ℕ) (t : ℕ) → IsMadeOf T plan t → IsWritable (edges_made T.edg (primitives_of T) plan t)
edges_writable l T plan t m =
    let c : Primitives = primitives_of T in
    let columns : List Col = T.edg.head.columns in
    let sound : IsSound T.edg.head = m.writable.edg.sound in
    let p : HasEdgePlaces columns = edge_places T.edg sound m.columns.edg in
    let a : AreEdgePlaces columns p.places = p.are in
    let news : List NewKind = kind_at p.places.id kinds.I ∷ reference_kinds kinds.K p.places in
    let takes : AllByRecursion (TakesRows columns) news = (
      record { one = a.id.one; rows = refl },
      (
        record { one = a.start_node.one; rows = refl },
        (
          record { one = a.end_node.one; rows = refl },
          (
            record { one = a.right_face.one; rows = refl },
            (
              record { one = a.left_face.one; rows = refl },
              (record { one = a.right_edge.one; rows = refl }, (record { one = a.left_edge.one; rows = refl }, tt)),
            ),
          ),
        ),
      ),
    ) in
    let many : length c.edges ≡ length T.edg.rows = length-map T.edg.rows (edge_in_row columns) in
    let few : length (present_edges c plan t) + 1 < 2 ^ 31 = made_few _ (present_edges c plan t) m.made.edg in
    record {
      sound = shown_sound l.sound l.places (edge_kinds columns) news T.edg.head (edge_kinds_are kinds.K columns p.places a) takes sound;
      fits = numbered_all (FitsRow (with_kinds (edge_kinds columns) columns)) (IsPassing (has_edge c plan t) (length c.edges)) _ (present_edges c plan t)
          (all_passing (has_edge c plan t) (length c.edges))
          (λ k e most passing. edge_row l columns p.places k (tiled_edge c plan t k e) (kth T.edg.rows e []) a (omega arith)
          (tiled_edge_small c plan m.tiles m.few t k e passing.passes)
          (kth_all (FitsRow columns) T.edg.rows e [] (subst (λ (n : ℕ). IsRowOf n e) many passing.row) m.writable.edg.fits));
    }

-- ---- all tables

-- a table that is there only where another is
where_there : (o : Option Grid) (make : Grid → Grid) → ((grid : Grid) → o ≡ Some grid → IsWritable (make grid)) → (grid : Grid)
    → option_map make o ≡ Some grid → IsWritable grid
where_there None make each grid e = absurd (none_is_some grid e)
where_there (Some own) make each grid e = subst IsWritable (same_some (make own) grid e) (each own refl)

made_writable : MadeLaws → (T : PrimitiveTables) (plan : ℕ → ℕ) (t : ℕ) → IsMadeOf T plan t → AreWritable (tables_of_tile T plan t)
made_writable l T plan t m = record {
  edg = edges_writable l T plan t m;
  fac = faces_writable l T plan t m;
  rng = rings_writable l T plan t m;
  cnd = nodes_writable l T plan t m;
  end = where_there T.end (λ grid. entities_made grid (primitives_of T) plan t) (entities_writable l T plan t m);
}

-- numbers of rows of the coverage
source_few : (n many : ℕ) → n ≡ many → many ≤ most_rows → n < 2 ^ 24
source_few n many e few = omega arith

pub tables_writable : MadeLaws → TilesAreWritable
tables_writable l T plan tiles t columns writable rows tileable many low high made =
    let few : IsFew (primitives_of T) plan tiles = record {
      tileable = tileable;
      faces = source_few (length (primitives_of T).faces) (length T.fac.rows) (length-map T.fac.rows (face_in_row T.fac.head.columns)) rows.fac;
      nodes = source_few (length (primitives_of T).nodes) (length T.cnd.rows) (length-map T.cnd.rows (node_in_row T.cnd.head.columns)) rows.cnd;
      last = many;
    } in
    made_writable l T plan t (record { tiles = tiles; columns = columns; writable = writable; few = few; made = made })
