-- There is no finding on carried cells exactly where shared nodes and the universe carry the same everywhere.
use Rattle.std.proofs.Common.{[], ◌≡◌, ℕ, ◌+◌, ◌≤◌, Bool, true, not, refl, sym, ap, ◌∙◌, subst, inl, inr, arith, Option, Some, None, List, length}
use Rattle.std.specs.Option.{option_map, unwrap_or}
use Rattle.std.proofs.lemmas.List.{length-map}
use Rattle.vpf_triplet.specs.declared.triplets.Triplet.{Triplet}
use Rattle.vpf_head.specs.Head.{Col}
use Rattle.vpf_darts.specs.Darts.{code, tile_in, edge_in, sign_of}
use Rattle.vpf_findings.specs.Findings.{Disagreement}
use Rattle.vpf_findings.specs.Firsts.{unless}
use Rattle.vpf_findings.specs.Inner.FirstLaws.{or-none_both, option_map-none, over_none}
use Rattle.vpf_prims.specs.Columns.{in_table}
use Rattle.vpf_prims.specs.Lists.{kth}
use Rattle.vpf_prims.specs.Primitives.{FacePrimitive, NodePrimitive, Library, absent_face, absent_node, faces_in, nodes_in, has_tables, node_count, face_count}
use Rattle.vpf_prims.specs.Reading.{primitives_of, node_in_row, face_in_row}
use Rattle.vpf_prims.specs.Roles.{face_roles, node_roles}
use Rattle.vpf_prims.specs.Suiting.{carried_columns}
use Rattle.vpf_prims.specs.Tables.{TileTables, fac_at, at_citation}
use Rattle.vpf_prims.specs.Coverages.{CoverageTables, tile_at}
use Rattle.vpf_wing.specs.Links.{Beyond, links_of, edge_of_dart, is_minus, node_by}
use Rattle.vpf_prims.specs.Libraries.{primitives_in, library_of, in_tiles}
use Rattle.vpf_follow.specs.Libraries.{over_edges}
use Rattle.vpf_follow.specs.SideLines.{node_citation}
use Rattle.vpf_follow.specs.Inner.Homes.{HasFewEdges}
use Rattle.vpf_wing.specs.Inner.DartLaws.{some-or-none, none_is_some, code-minus}
use Rattle.vpf_follow.specs.Inner.TileLaws.{TileOfDart, dart-tile, DartOfEdge, edge-dart, tile-below, both_lines, or-silent, tiles-none, tiles-silent, darts-none, darts-silent}
use Rattle.vpf_cross.specs.Carrying.{Difference, first_difference}
use Rattle.vpf_cross.specs.CarriedLines.{node_carried, universe_carried, first_passing, first_tile, shared_node_line, head_node_line, universe_line, carried_finding}
use Rattle.vpf_cross.specs.Agreeing.{AreCarried}
use Rattle.vpf_cross.specs.Inner.Laws.{AreWhole, AreNumbered, CarriedDecides}
use Rattle.vpf_cross.proofs.LawCells.{none_differ, none_for_same, carries, row_filled, row_said}
use Rattle.vpf_cross.proofs.LawNumbered.{tables_of_tile, tile_has_tables, dart_row, GoesOn, reference_on, node_named}
use Rattle.vpf_cross.specs.Inner.CarriedLaws.{passing_is}

-- the columns of a tile's nodes and faces without a role
abbrev node_cells : TileTables → List Col
node_cells T = carried_columns node_roles T.tables.cnd.head.columns

abbrev face_cells : TileTables → List Col
face_cells T = carried_columns face_roles T.tables.fac.head.columns

node_carries : (c : CoverageTables) → AreWhole c → (s : ℕ) (S : TileTables) (t : ℕ) (T : TileTables) (n : ℕ) → tile_at c s ≡ Some S → tile_at c t ≡ Some T
    → 1 ≤ n → n ≤ node_count (library_of c) t → length (node_carried (library_of c) t n) ≡ length (node_cells S)
node_carries c whole s S t T n es e low high =
    let nodes : nodes_in ((library_of c).tile t) ≡ (primitives_of T.tables).nodes = ap (λ o. nodes_in (primitives_in o)) e in
    let count : node_count (library_of c) t ≡ length T.tables.cnd.rows =
    ap length nodes ∙ length-map T.tables.cnd.rows (node_in_row T.tables.cnd.head.columns) in
    let most : n ≤ length T.tables.cnd.rows = omega arith in
    let filled = row_filled (λ row. length row ≡ length T.tables.cnd.head.columns) T.tables.cnd.rows n (whole.filled t T e).cnd low most in
    ap (λ (xs : List NodePrimitive). length (kth xs n absent_node).carried) nodes
    ∙ ap (λ (x : NodePrimitive). length x.carried) (row_said node_in_row T.tables.cnd absent_node n low most)
    ∙ carries node_roles T.tables.cnd.head.columns (kth T.tables.cnd.rows n []) filled
    ∙ whole.nodes t s T S e es

universe_carries : (c : CoverageTables) → AreWhole c → (s : ℕ) (S : TileTables) (t : ℕ) (T : TileTables) → tile_at c s ≡ Some S → tile_at c t ≡ Some T
    → 1 ≤ face_count (library_of c) t → length (universe_carried (library_of c) t) ≡ length (face_cells S)
universe_carries c whole s S t T es e low =
    let faces : faces_in ((library_of c).tile t) ≡ (primitives_of T.tables).faces = ap (λ o. faces_in (primitives_in o)) e in
    let count : face_count (library_of c) t ≡ length T.tables.fac.rows =
    ap length faces ∙ length-map T.tables.fac.rows (face_in_row T.tables.fac.head.columns) in
    let most : 1 ≤ length T.tables.fac.rows = omega arith in
    let filled = row_filled (λ row. length row ≡ length T.tables.fac.head.columns) T.tables.fac.rows 1 (whole.filled t T e).fac (omega arith) most in
    ap (λ (xs : List FacePrimitive). length (kth xs 1 absent_face).carried) faces
    ∙ ap (λ (x : FacePrimitive). length x.carried) (row_said face_in_row T.tables.fac absent_face 1 (omega arith) most)
    ∙ carries face_roles T.tables.fac.head.columns (kth T.tables.fac.rows 1 []) filled
    ∙ whole.faces t s T S e es

-- where a tile has tables, the first one that has them does
first_has : (L : Library) (t : ℕ) → t ≤ L.last → has_tables L t ≡ true → has_tables L (first_tile L) ≡ true
unfolding first_tile
first_has L t below h = elim (some-or-none (first_passing (has_tables L) 0 (L.last + 1))) [
  | inl s ↦ ap (λ o. has_tables L (unwrap_or o 0)) s.1 ∙ passing_is (has_tables L) 0 (L.last + 1) s.0 s.1
  | inr none ↦ (
      let here : unless (not (has_tables L t)) t ≡ None = over_none (λ t. unless (not (has_tables L t)) t) 0 (L.last + 1) none t (omega arith) (omega arith) in
      let h' = rw h at here in
      absurd (none_is_some t (sym h')))
]

-- what a line says of the head node of a dart
abbrev SharesCells : Library → ℕ → Type 0
SharesCells L d = (p : Beyond) → ((links_of L).node d).out ≡ Some p → node_carried L (tile_in d) ((links_of L).node d).id ≡ node_carried L p.tile p.id

abbrev shared_found : ℕ → TileTables → ℕ → Bool → Difference → Disagreement
shared_found t T k m f = at_citation t T (node_citation m) 7 k f.here f.there

abbrev is_line_silent : Library → ℕ → TileTables → ℕ → Bool → ℕ → Type 0
is_line_silent L t T k m d = shared_node_line L t T k m ((links_of L).node d).id ((links_of L).node d).out ≡ None

-- two nodes don't differ in the columns of a tile
abbrev DontDiffer : Library → TileTables → (s n : ℕ) → Beyond → Type 0
DontDiffer L T s n p = first_difference (node_cells T) (node_carried L s n) (node_carried L p.tile p.id) ≡ None

line_none : (L : Library) (t : ℕ) (T : TileTables) (k : ℕ) (m : Bool) (n : ℕ) (o : Option Beyond) (p : Beyond) → o ≡ Some p
    → shared_node_line L t T k m n o ≡ None → DontDiffer L T t n p
line_none L t T k m n o p e none =
    option_map-none (shared_found t T k m) (first_difference (node_cells T) (node_carried L t n) (node_carried L p.tile p.id))
    (ap (shared_node_line L t T k m n) (sym e) ∙ none)

shares : (c : CoverageTables) → AreWhole c → AreNumbered (library_of c) → (t : ℕ) (T : TileTables) (k : ℕ) (m : Bool) (d : ℕ) → tile_at c t ≡ Some T
    → tile_in d ≡ t → (links_of (library_of c)).has d ≡ true → is_line_silent (library_of c) t T k m d → SharesCells (library_of c) d
shares c whole numbered t T k m d e tile has none p out =
    let L : Library = library_of c in
    let here : tile_at c (tile_in d) ≡ Some T = ap (tile_at c) tile ∙ e in
    let r : Triplet = node_by (is_minus d) (edge_of_dart L d) in
    let row = dart_row c numbered d has T here in
    let on : GoesOn (library_of c) (node_count (library_of c)) (tile_in d) (node_by (is_minus d) (edge_of_dart (library_of c) d)) p =
    reference_on L (node_count L) (tile_in d) r p (node_named L (tile_in d) (edge_in d) (edge_of_dart L d) (is_minus d) row) out in
    let P : (T : TileTables) × (tile_at c p.tile ≡ Some T) = tables_of_tile c p.tile on.has in
    let same = line_none L t T k m ((links_of L).node d).id ((links_of L).node d).out p out none in
    let same' = subst (λ s. DontDiffer (library_of c) T s ((links_of (library_of c)).node d).id p) (sym tile) same in
    none_differ (node_cells T) (node_carried L (tile_in d) ((links_of L).node d).id) (node_carried L p.tile p.id)
    (node_carries c whole t T (tile_in d) T ((links_of L).node d).id e here on.here.0 on.here.1)
    (node_carries c whole t T p.tile P.0 p.id e P.1 on.row.0 on.row.1) same'

line_silent : (L : Library) (t : ℕ) (T : TileTables) (k : ℕ) (m : Bool) (n : ℕ) (o : Option Beyond)
    → ((p : Beyond) → o ≡ Some p → node_carried L t n ≡ node_carried L p.tile p.id) → shared_node_line L t T k m n o ≡ None
line_silent L t T k m n None h = refl
line_silent L t T k m n (Some p) h =
    ap (option_map (shared_found t T k m)) (none_for_same (node_cells T) (node_carried L t n) (node_carried L p.tile p.id) (h p refl))

abbrev universe_found : ℕ → TileTables → Difference → Disagreement
universe_found t T f = in_table (fac_at t T) 7 1 f.column f.here f.there

universe_none : (c : CoverageTables) → AreWhole c → AreNumbered (library_of c) → (t : ℕ) (T : TileTables) → tile_at c t ≡ Some T
    → universe_line (library_of c) t T ≡ None → universe_carried (library_of c) t ≡ universe_carried (library_of c) (first_tile (library_of c))
universe_none c whole numbered t T e none =
    let L : Library = library_of c in
    let f : ℕ = first_tile (library_of c) in
    let has : has_tables (library_of c) t ≡ true = tile_has_tables c t T e in
    let first : has_tables (library_of c) (first_tile (library_of c)) ≡ true = first_has L t (tile-below c t T e) has in
    let F : (T : TileTables) × (tile_at c (first_tile (library_of c)) ≡ Some T) = tables_of_tile c f first in
    none_differ (face_cells T) (universe_carried L t) (universe_carried L f)
    (universe_carries c whole t T t T e e (numbered t has).universe)
    (universe_carries c whole t T f F.0 e F.1 (numbered f first).universe)
    (option_map-none (universe_found t T) (first_difference (face_cells T) (universe_carried L t) (universe_carried L f)) none)

-- the two parts of what is found in a tile
abbrev nodes_found : Library → ℕ → TileTables → Option Disagreement
nodes_found L t T = over_edges (both_lines (head_node_line L) true t T) T

-- a line that says nothing on the universe of any tile
abbrev IsUniverseSilent : CoverageTables → Type 0
IsUniverseSilent c = (t : ℕ) (T : TileTables) → tile_at c t ≡ Some T → universe_line (library_of c) t T ≡ None

are_carried : (c : CoverageTables) → HasFewEdges (library_of c) → AreWhole c → AreNumbered (library_of c)
    → in_tiles (nodes_found (library_of c)) c ≡ None → IsUniverseSilent c → AreCarried (library_of c)
are_carried c few whole numbered none universe = record {
  nodes = λ d p has out. (
      let i : TileOfDart c d = dart-tile c d has in
      let line = darts-none (head_node_line (library_of c)) true c none (tile_in d) i.tables (edge_in d) (is_minus d) i.at i.from_one i.to_count in
      let line' = subst (is_line_silent (library_of c) (tile_in d) i.tables (edge_in d) (is_minus d)) (code-minus d) line in
      shares c whole numbered (tile_in d) i.tables (edge_in d) (is_minus d) d i.at refl has line' p out);
  universe = λ t has. (let T = tables_of_tile c t has in universe_none c whole numbered t T.0 T.1 (universe t T.0 T.1));
}

nodes_silent : (c : CoverageTables) → HasFewEdges (library_of c) → AreCarried (library_of c) → in_tiles (nodes_found (library_of c)) c ≡ None
nodes_silent c few h = darts-silent (head_node_line (library_of c)) true c (λ t T k m e low high. (
    let L : Library = library_of c in
    let d : ℕ = code t k (sign_of m) in
    let r : DartOfEdge c t T k m = edge-dart c t T k m (few t) e low high in
    let n : ℕ = ((links_of L).node d).id in
    line_silent L t T k m n ((links_of L).node d).out (λ p out.
    subst (λ s. node_carried (library_of c) s n ≡ node_carried (library_of c) p.tile p.id) r.tile (h.nodes d p r.has out))))

pub carried_decides : CarriedDecides
carried_decides c few whole numbered = (
  λ none. (
      let L : Library = library_of c in
      let parts : (t : ℕ) (T : TileTables) → tile_at c t ≡ Some T
      → (nodes_found (library_of c) t T ≡ None) × (universe_line (library_of c) t T ≡ None) = λ t T e.
      or-none_both (nodes_found L t T) (universe_line L t T) (tiles-none (carried_finding L) c none t T e) in
      are_carried c few whole numbered (tiles-silent (nodes_found L) c (λ t T e. (parts t T e).0)) (λ t T e. (parts t T e).1)),
  λ h. (
      let L : Library = library_of c in
      let nodes = nodes_silent c few h in
      tiles-silent (carried_finding L) c (λ t T e.
      or-silent (nodes_found L t T) (universe_line L t T) (tiles-none (nodes_found L) c nodes t T e)
      (ap (option_map (universe_found t T))
      (none_for_same (face_cells T) (universe_carried L t) (universe_carried L (first_tile L)) (h.universe t (tile_has_tables c t T e)))))),
)
