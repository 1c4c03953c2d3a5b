-- Which primitives are in which tiles, by lists of their tiles.
use std.Path.{fun_ext}
use Rattle.std.proofs.Common.{◌≡◌, ℕ, zero, suc, ◌+◌, ◌^◌, ◌<◌, ◌≤◌, ◌⊎◌, Bool, true, false, not, eqb, leb, ◌||◌, ◌&&◌, refl, sym, ap, ◌∙◌, subst, inl, inr, arith, List, [], ◌∷◌, ◌++◌, length, map, get_or, take}
use Rattle.std.specs.Prelude.{All, Err, IfOk, Ok, Result, Some}
use Rattle.std.specs.List.{list_any, range_with_len}
use Rattle.std.proofs.Math.Seq.{take-suc}
use Rattle.std.proofs.lemmas.Bool.{cases_Bool, cases_eq, cases_lt, and_parts, eq-eqb, ne_eqb, le-leb, leb-true}
use Rattle.std.proofs.lemmas.List.{get_or-map, get_or_past, length-map, map-append}
use Rattle.std.proofs.lemmas.List.Elements.{All-from_get_or, All-map}
use Rattle.std.proofs.lemmas.List.Folds.{list_any-append}
use Rattle.vpf_cutting.specs.declared.copies.edges.EdgeNodes.{EdgeNodes}
use Rattle.vpf_cutting.specs.declared.copies.edges.EdgeTiles.{EdgeTiles}
use Rattle.vpf_cutting.specs.Inner.Copies.Placing.{AreNodes, AreTiles, has_end, is_at, is_beside, is_end, is_side, no_nodes, no_tiles}
use Rattle.vpf_cutting.specs.Inner.Copies.Presence.{Presence, has, presence_of}
use Rattle.vpf_darts.specs.Darts.{code, flip}
use Rattle.vpf_prims.specs.Lists.{kth}
use Rattle.vpf_prims.specs.Numbering.{IsRowOf}
use Rattle.vpf_prims.specs.Inner.Owning.{NamesItsOwn, OwnsEdge}
use Rattle.vpf_prims.specs.Primitives.{EdgePrimitive, EntityPrimitive, Primitives, absent_edge, absent_entity, entities_in}
use Rattle.vpf_prims.specs.Reading.{primitives_of}
use Rattle.vpf_prims.specs.References.{id_of}
use Rattle.vpf_prims.specs.Tables.{TileTables}
use Rattle.vpf_wing.specs.Inner.DartLaws.{never_both}
use Rattle.vpf_wing.specs.Links.{row_darts}
use Rattle.vpf_tiling.specs.Plans.{IsPlan, IsTileable}
use Rattle.vpf_tiling.specs.Presence.{containing_face, face_of, has_edge, has_node, holds_entity, holds_face, is_present, is_within, tail_of}
use Rattle.vpf_tiling.specs.Inner.RankLaws.{up-last}
use Rattle.vpf_tiling.specs.Ranks.{up_to}
use Rattle.vpf_cutting.specs.Inner.Cuts.{AreCutEdges, AreCutEntities, AreCutFaces, ArePresent, Cutting, IsPlanned, KeepsCut, cutting_of, plan_by}
use Rattle.vpf_cutting.specs.Inner.Sides.{nodes_at, tile_round, tiles_beside}
use Rattle.vpf_cutting.specs.Inner.WalkLaws.{has_edge_row, present_other, row_has}
use Rattle.vpf_cutting.proofs.RowLemmas.{face_is, flip_is, tail_is}

-- item k of a mapped list
pub kth_map : {X Y : Type 0} (f : X → Y) (xs : List X) (k : ℕ) (absent : X) (none : Y) → IsRowOf (length xs) k → kth (map f xs) k none ≡ f (kth xs k absent)
kth_map f xs zero absent none h = absurd (omega (arith, h.0))
kth_map f xs (suc i) absent none h = get_or-map f xs i absent none (omega (arith, h.1))

-- past its last number a list has no item
pub kth_past : {X : Type 0} (xs : List X) (k : ℕ) (absent : X) → length xs < k → kth xs k absent ≡ absent
kth_past xs zero absent h = refl
kth_past xs (suc i) absent h = get_or_past xs i absent (omega arith)

-- one item more is mapped
pub map_more : {X Y : Type 0} (f : X → Y) (xs : List X) (i : ℕ) (absent : X) → i < length xs
    → map f (take i xs) ++ f (kth xs (i + 1) absent) ∷ [] ≡ map f (take (i + 1) xs)
map_more f xs i absent h =
    let next : i + 1 ≡ suc i = omega arith in
    ap (λ k. map f (take i xs) ++ f (kth xs k absent) ∷ []) next
    ∙ sym (map-append f (take i xs) (get_or xs i absent ∷ []))
    ∙ ap (map f) (sym (take-suc xs i absent h))
    ∙ ap (λ k. map f (take k xs)) (sym next)

-- a face by its tile: one that has a tile is no universe and is a face of the tile
pub face_test : (c : Primitives) (plan : ℕ → ℕ) (tiles : ℕ) → IsPlan c plan tiles → plan 1 ≡ 0 → (t f : ℕ) → IsRowOf (length c.faces) f
    → (not (eqb t 0) && eqb (plan f) t) ≡ holds_face c plan t f
face_test c plan tiles p universe t f row = elim (cases_eq f 1) [
  | inl one ↦ (let low : leb 2 f ≡ false = ap (leb 2) one in neither t (plan f) (ap plan one ∙ universe) ∙ sym (ap (λ b. b && leb f (length c.faces) && eqb (plan f) t) low))
  | inr other ↦ (
      let low : 1 ≤ f = row.0 in
      let two : 2 ≤ f = omega arith in
      let from : 1 ≤ plan f = p.from_one f two row.1 in
      some t (plan f) from
      ∙ sym (ap (λ b. b && leb f (length c.faces) && eqb (plan f) t) (le-leb 2 f two)
      ∙ ap (λ b. b && eqb (plan f) t) (le-leb f (length c.faces) row.1)))
]
  where
    neither : (t s : ℕ) → s ≡ 0 → (not (eqb t 0) && eqb s t) ≡ false
    neither t s z = elim (cases_eq t 0) [
      | inl e ↦ ap (λ b. not b && eqb s t) (eq-eqb t 0 e)
      | inr ne ↦ ap (λ b. not b && eqb s t) (ne_eqb t 0 ne) ∙ ne_eqb s t (λ e. ne (sym e ∙ z))
    ]

    some : (t s : ℕ) → 1 ≤ s → (not (eqb t 0) && eqb s t) ≡ eqb s t
    some t s h = elim (cases_eq t 0) [
      | inl e ↦ ap (λ b. not b && eqb s t) (eq-eqb t 0 e) ∙ sym (ne_eqb s t (λ q. (omega arith)))
      | inr ne ↦ ap (λ b. not b && eqb s t) (ne_eqb t 0 ne)
    ]

-- the two sides of an edge
sides_or : (z l r : Bool) → (not z && (l || r)) ≡ ((not z && r) || (not z && l))
sides_or true l r = refl
sides_or false true true = refl
sides_or false true false = refl
sides_or false false true = refl
sides_or false false false = refl

none_held : (c : Primitives) (plan : ℕ → ℕ) (t f : ℕ) → f ≡ 0 → holds_face c plan t f ≡ false
none_held c plan t f z = ap (λ k. leb 2 k && leb k (length c.faces) && eqb (plan k) t) z

out_of_tile : (t : ℕ) → (not (eqb t 0) && (eqb 0 t || eqb 0 t)) ≡ false
out_of_tile t = elim (cases_eq t 0) [
  | inl z ↦ ap (λ x. not (eqb x 0) && (eqb 0 x || eqb 0 x)) z
  | inr some ↦ ap (λ b. not (eqb t 0) && (b || b)) (ne_eqb 0 t (λ e. some (sym e))) ∙ ap (λ b. not b && false) (ne_eqb t 0 some)
]

at_no_tile : (t : ℕ) → (not (eqb t 0) && eqb 0 t) ≡ false
at_no_tile t = elim (cases_eq t 0) [
  | inl z ↦ ap (λ x. not (eqb x 0) && eqb 0 x) z
  | inr some ↦ ap (λ b. not (eqb t 0) && b) (ne_eqb 0 t (λ e. some (sym e))) ∙ ap (λ b. not b && false) (ne_eqb t 0 some)
]

-- an edge that is a row
edge_beside : (c : Primitives) (plan : ℕ → ℕ) (tiles : ℕ) → IsTileable c plan tiles → plan 1 ≡ 0 → NamesItsOwn c → (t e : ℕ) → IsRowOf (length c.edges) e
    → is_beside (map (tiles_beside plan) c.edges) t e ≡ has_edge c plan t e
edge_beside c plan tiles w universe own t e row =
    let few = w.few in
    let top : e ≤ length c.edges = row.1 in
    let small : e < 2 ^ 32 = omega arith in
    let edge : EdgePrimitive = kth c.edges e absent_edge in
    let names : OwnsEdge c edge = own.edges e row in
    let plus : (not (eqb t 0) && eqb (plan (id_of edge.right_face)) t) ≡ is_within c plan t (code 0 e 0) =
    face_test c plan tiles w.plans universe t (id_of edge.right_face) names.right_face
    ∙ ap (holds_face c plan t) (sym (face_is c e false small))
    ∙ sym (ap (λ b. b && holds_face c plan t (face_of c (code 0 e 0))) (row_has c e 0 w.few (omega arith) row)) in
    let minus : (not (eqb t 0) && eqb (plan (id_of edge.left_face)) t) ≡ is_within c plan t (flip (code 0 e 0)) =
    face_test c plan tiles w.plans universe t (id_of edge.left_face) names.left_face
    ∙ ap (holds_face c plan t) (sym (face_is c e true small))
    ∙ sym (ap (λ b. b && holds_face c plan t (face_of c (code 0 e 1))) (row_has c e 1 w.few (omega arith) row))
    ∙ ap (is_within c plan t) (sym (flip_is 0 e false)) in
    ap (λ (s : EdgeTiles). not (eqb t 0) && is_side s t) (kth_map (tiles_beside plan) c.edges e absent_edge no_tiles row)
    ∙ sides_or (eqb t 0) (eqb (plan (id_of edge.left_face)) t) (eqb (plan (id_of edge.right_face)) t)
    ∙ ap (λ b. b || (not (eqb t 0) && eqb (plan (id_of edge.left_face)) t)) plus
    ∙ ap (λ b. is_within c plan t (code 0 e 0) || b) minus

-- a number that is no row of a list
kth_none : {X : Type 0} (xs : List X) (k : ℕ) (absent : X) → (IsRowOf (length xs) k → ⊥) → kth xs k absent ≡ absent
kth_none xs k absent h = elim (cases_lt (length xs) k) [
  | inl past ↦ kth_past xs k absent past
  | inr upto ↦ (elim (cases_eq k 0) [ inl z ↦ ap (λ i. kth xs i absent) z | inr some ↦ absurd (h (omega arith, omega arith)) ])
]

pub row_or_not : (n k : ℕ) → IsRowOf n k ⊎ (IsRowOf n k → ⊥)
row_or_not n k = elim (cases_lt n k) [
  | inl past ↦ inr (λ h. omega (arith, h.1))
  | inr upto ↦ (elim (cases_eq k 0) [ inl z ↦ inr (λ h. omega (arith, h.0)) | inr some ↦ inl (omega arith, omega arith) ])
]

no_edge_there : (c : Primitives) (plan : ℕ → ℕ) (t e : ℕ) → (IsRowOf (length c.edges) e → ⊥) → has_edge c plan t e ≡ false
no_edge_there c plan t e no_row = elim (cases_Bool (has_edge c plan t e)) [ inl h ↦ absurd (no_row (has_edge_row c plan t e h)) | inr f ↦ f ]

held_row : (c : Primitives) (plan : ℕ → ℕ) (t f : ℕ) → holds_face c plan t f ≡ true → IsRowOf (length c.faces) f
held_row c plan t f h =
    let a = and_parts (leb 2 f && leb f (length c.faces)) (eqb (plan f) t) h in
    let b = and_parts (leb 2 f) (leb f (length c.faces)) a.0 in
    let two : 2 ≤ f = leb-true 2 f b.0 in
    (omega arith, leb-true f (length c.faces) b.1)

no_face_there : (c : Primitives) (plan : ℕ → ℕ) (t f : ℕ) → (IsRowOf (length c.faces) f → ⊥) → holds_face c plan t f ≡ false
no_face_there c plan t f no_row = elim (cases_Bool (holds_face c plan t f)) [ inl h ↦ absurd (no_row (held_row c plan t f h)) | inr g ↦ g ]

no_entity_there : (c : Primitives) (plan : ℕ → ℕ) (t n : ℕ) → (IsRowOf (length (entities_in (Some c))) n → ⊥) → holds_entity c plan t n ≡ false
no_entity_there c plan t n no_row =
    let zero_face : containing_face c n ≡ 0 = ap (λ (e : EntityPrimitive). id_of e.containing_face) (kth_none (entities_in (Some c)) n absent_entity no_row) in
    ap (λ b. leb 1 n && b) (none_held c plan t (containing_face c n) zero_face) ∙ neither (leb 1 n)
  where
    neither : (b : Bool) → (b && false) ≡ false
    neither true = refl
    neither false = refl

-- an entity node of a tile is one of the coverage
pub entity_row : (c : Primitives) (plan : ℕ → ℕ) (t n : ℕ) → holds_entity c plan t n ≡ true → IsRowOf (length (entities_in (Some c))) n
entity_row c plan t n h = elim (row_or_not (length (entities_in (Some c))) n) [
  | inl row ↦ row
  | inr no_row ↦ absurd (never_both (holds_entity c plan t n) h (no_entity_there c plan t n no_row))
]

all_map : {X Y : Type 0} (P : Y → Type 0) (f : X → Y) (xs : List X) (absent : X) → ((k : ℕ) → IsRowOf (length xs) k → P (f (kth xs k absent))) → All P (map f xs)
all_map P f xs absent h = All-map P f xs (All-from_get_or (λ x. P (f x)) xs absent (λ i l. h (suc i) (omega arith, omega arith)))

-- the tile of a face is one of all
plan_within : (c : Primitives) (plan : ℕ → ℕ) (tiles : ℕ) → IsPlan c plan tiles → plan 1 ≡ 0 → (f : ℕ) → IsRowOf (length c.faces) f → plan f ≤ tiles
plan_within c plan tiles p universe f row = elim (cases_eq f 1) [
  | inl one ↦ (let z : plan f ≡ 0 = ap plan one ∙ universe in omega arith)
  | inr other ↦ (let low : 1 ≤ f = row.0 in p.to_last f (omega arith) row.1)
]

-- edges are in the tiles beside them
pub edges_beside : (c : Primitives) (plan : ℕ → ℕ) (tiles : ℕ) → IsTileable c plan tiles → plan 1 ≡ 0 → NamesItsOwn c
    → is_beside (map (tiles_beside plan) c.edges) ≡ has_edge c plan
edges_beside c plan tiles w universe own = fun_ext (λ t. fun_ext (λ e. elim (row_or_not (length c.edges) e) [
  | inl row ↦ edge_beside c plan tiles w universe own t e row
  | inr no_row ↦ (
      let many : length (map (tiles_beside plan) c.edges) ≡ length c.edges = length-map c.edges (tiles_beside plan) in
      ap (λ (s : EdgeTiles). not (eqb t 0) && is_side s t)
      (kth_none (map (tiles_beside plan) c.edges) e no_tiles (λ h. no_row (subst (λ n. IsRowOf n e) many h)))
      ∙ out_of_tile t ∙ sym (no_edge_there c plan t e no_row))
]))

-- faces are in their tiles
pub faces_at : (c : Primitives) (plan : List ℕ) (tiles : ℕ) → IsPlan c (plan_by plan) tiles → plan_by plan 1 ≡ 0 → length plan ≡ length c.faces
    → is_at plan ≡ holds_face c (plan_by plan)
faces_at c plan tiles p universe many = fun_ext (λ t. fun_ext (λ f. elim (row_or_not (length c.faces) f) [
  | inl row ↦ face_test c (plan_by plan) tiles p universe t f row
  | inr no_row ↦
      ap (λ s. not (eqb t 0) && eqb s t) (kth_none plan f 0 (λ h. no_row (subst (λ n. IsRowOf n f) many h)))
      ∙ at_no_tile t ∙ sym (no_face_there c (plan_by plan) t f no_row)
]))

-- entity nodes are in the tiles of their faces
pub entities_at : (c : Primitives) (plan : ℕ → ℕ) (tiles : ℕ) → IsPlan c plan tiles → plan 1 ≡ 0 → NamesItsOwn c
    → is_at (map (tile_round plan) (entities_in (Some c))) ≡ holds_entity c plan
entities_at c plan tiles p universe own = fun_ext (λ t. fun_ext (λ n. elim (row_or_not (length (entities_in (Some c))) n) [
  | inl row ↦
      ap (λ s. not (eqb t 0) && eqb s t) (kth_map (tile_round plan) (entities_in (Some c)) n absent_entity 0 row)
      ∙ face_test c plan tiles p universe t (containing_face c n) (own.entities n row)
      ∙ sym (ap (λ b. b && holds_face c plan t (containing_face c n)) (le-leb 1 n row.0))
  | inr no_row ↦ (
      let many : length (map (tile_round plan) (entities_in (Some c))) ≡ length (entities_in (Some c)) = length-map (entities_in (Some c)) (tile_round plan) in
      ap (λ s. not (eqb t 0) && eqb s t)
      (kth_none (map (tile_round plan) (entities_in (Some c))) n 0 (λ h. no_row (subst (λ k. IsRowOf k n) many h)))
      ∙ at_no_tile t ∙ sym (no_entity_there c plan t n no_row))
]))

-- the tiles of a plan are among all
pub plan_all : (c : Primitives) (plan : List ℕ) (tiles : ℕ) → IsPlan c (plan_by plan) tiles → plan_by plan 1 ≡ 0 → length plan ≡ length c.faces
    → All (λ tile. tile ≤ tiles) plan
plan_all c plan tiles p universe many =
    All-from_get_or (λ tile. tile ≤ tiles) plan 0 (λ i h. plan_within c (plan_by plan) tiles p universe (suc i) (omega arith, omega arith))

-- the tiles beside an edge are among all
pub tiles_within : (c : Primitives) (plan : ℕ → ℕ) (tiles : ℕ) → IsPlan c plan tiles → plan 1 ≡ 0 → NamesItsOwn c
    → All (AreTiles tiles) (map (tiles_beside plan) c.edges)
tiles_within c plan tiles p universe own =
    all_map (AreTiles tiles) (tiles_beside plan) c.edges absent_edge
    (λ k row. record {
      left = plan_within c plan tiles p universe (id_of (kth c.edges k absent_edge).left_face) (own.edges k row).left_face;
      right = plan_within c plan tiles p universe (id_of (kth c.edges k absent_edge).right_face) (own.edges k row).right_face;
    })

-- the nodes of edges are those of the coverage
pub nodes_within : (c : Primitives) → NamesItsOwn c → All (AreNodes (length c.nodes)) (map nodes_at c.edges)
nodes_within c own =
    all_map (AreNodes (length c.nodes)) nodes_at c.edges absent_edge
    (λ k row. record {
      from_start = (own.edges k row).start_node.0;
      to_start = (own.edges k row).start_node.1;
      from_end = (own.edges k row).end_node.0;
      to_end = (own.edges k row).end_node.1;
    })

-- the tiles of the faces of entity nodes are among all
pub places_within : (c : Primitives) (plan : ℕ → ℕ) (tiles : ℕ) → IsPlan c plan tiles → plan 1 ≡ 0 → NamesItsOwn c
    → All (λ tile. tile ≤ tiles) (map (tile_round plan) (entities_in (Some c)))
places_within c plan tiles p universe own =
    all_map (λ tile. tile ≤ tiles) (tile_round plan) (entities_in (Some c)) absent_entity
    (λ k row. plan_within c plan tiles p universe (containing_face c k) (own.entities k row))

ends_or : (h a b : Bool) → ((h && (a || b)) || false) ≡ ((h && a) || ((h && b) || false))
ends_or false a b = refl
ends_or true true b = refl
ends_or true false b = refl

-- one edge and its two darts at a node
edge_at_node : (c : Primitives) (plan : ℕ → ℕ) → length c.edges < 2 ^ 24 → (t n e : ℕ) → IsRowOf (length c.edges) e
    → ((has_edge c plan t e && is_end (kth (map nodes_at c.edges) e no_nodes) n) || false)
    ≡ ((is_present c plan t (code 0 e 0) && eqb (tail_of c (code 0 e 0)) n) || ((is_present c plan t (code 0 e 1) && eqb (tail_of c (code 0 e 1)) n) || false))
edge_at_node c plan few t n e row =
    let top : e ≤ length c.edges = row.1 in
    let small : e < 2 ^ 32 = omega arith in
    let edge : EdgePrimitive = kth c.edges e absent_edge in
    let other : is_present c plan t (code 0 e 1) ≡ has_edge c plan t e = ap (is_present c plan t) (sym (flip_is 0 e false)) ∙ present_other c plan t (code 0 e 0) in
    ap (λ (s : EdgeNodes). (has_edge c plan t e && is_end s n) || false) (kth_map nodes_at c.edges e absent_edge no_nodes row)
    ∙ ends_or (has_edge c plan t e) (eqb (id_of edge.start_node) n) (eqb (id_of edge.end_node) n)
    ∙ ap (λ x. (has_edge c plan t e && eqb x n) || ((has_edge c plan t e && eqb (id_of edge.end_node) n) || false)) (sym (tail_is c e false small))
    ∙ ap (λ x. (has_edge c plan t e && eqb (tail_of c (code 0 e 0)) n) || ((has_edge c plan t e && eqb x n) || false)) (sym (tail_is c e true small))
    ∙ ap (λ b. (has_edge c plan t e && eqb (tail_of c (code 0 e 0)) n) || ((b && eqb (tail_of c (code 0 e 1)) n) || false)) (sym other)

ends_to : (c : Primitives) (plan : ℕ → ℕ) → length c.edges < 2 ^ 24 → (t n k : ℕ) → k ≤ length c.edges
    → list_any (λ e. has_edge c plan t e && is_end (kth (map nodes_at c.edges) e no_nodes) n) (up_to k)
    ≡ list_any (λ d. is_present c plan t d && eqb (tail_of c d) n) (row_darts 0 k)
ends_to c plan few t n zero le = refl
ends_to c plan few t n (suc k) le =
    let p : ℕ → Bool = λ e. has_edge c plan t e && is_end (kth (map nodes_at c.edges) e no_nodes) n in
    let q : ℕ → Bool = λ d. is_present c plan t d && eqb (tail_of c d) n in
    let two : List ℕ = code 0 (suc k) 0 ∷ code 0 (suc k) 1 ∷ [] in
    ap (list_any p) (up-last k)
    ∙ list_any-append p (up_to k) (suc k ∷ [])
    ∙ ap (λ b. b || list_any p (suc k ∷ [])) (ends_to c plan few t n k (omega arith))
    ∙ ap (λ b. list_any q (row_darts 0 k) || b) (edge_at_node c plan few t n (suc k) (omega arith, le))
    ∙ sym (list_any-append q (row_darts 0 k) two)

-- nodes are in the tiles of the edges that begin or end there
pub nodes_at_ends : (c : Primitives) (plan : ℕ → ℕ) → length c.edges < 2 ^ 24 → (p : Presence) → p.items ≡ length c.edges → has p ≡ has_edge c plan
    → has_end p (map nodes_at c.edges) ≡ has_node c plan
nodes_at_ends c plan few p many is = fun_ext (λ t. fun_ext (λ n.
    ap (λ (h : ℕ → ℕ → Bool). list_any (λ e. h t e && is_end (kth (map nodes_at c.edges) e no_nodes) n) (range_with_len 1 p.items)) is
    ∙ ap (λ k. list_any (λ e. has_edge c plan t e && is_end (kth (map nodes_at c.edges) e no_nodes) n) (range_with_len 1 k)) many
    ∙ ends_to c plan few t n (length c.edges) (omega arith)))

-- copies that are made by a test
pub copies_made : {E : Type 0} → (r : Result Presence E) (items count tiles : ℕ) (test wanted : ℕ → ℕ → Bool) → items ≡ count → count < 2 ^ 24 → test ≡ wanted
    → IfOk r (λ copies. copies ≡ presence_of items tiles test) → IfOk r (λ copies. has copies ≡ test) → IfOk r (ArePresent count tiles wanted)
copies_made (Ok p) items count tiles test wanted many few same made tests = record {
  items = ap (λ (q : Presence). q.items) made ∙ many;
  tiles = ap (λ (q : Presence). q.tiles) made;
  tests = tests ∙ same;
  few = few;
}
copies_made (Err e) items count tiles test wanted many few same made tests = tt

-- what is made for a cut is what is kept of it
pub cut_kept : (t : TileTables) (plan list : List ℕ) (tiles : ℕ) (edges nodes faces entities : Presence) → IsPlanned (cutting_of t plan tiles) → list ≡ plan
    → AreCutEdges (cutting_of t list tiles) edges → ArePresent (length (primitives_of t.tables).nodes) edges.tiles (has_end edges (map nodes_at (primitives_of t.tables).edges)) nodes
    → AreCutFaces (cutting_of t list tiles) faces → AreCutEntities (cutting_of t list tiles) entities → KeepsCut (cutting_of t plan edges.tiles) edges nodes faces entities
cut_kept t plan list tiles edges nodes faces entities p same e n f g =
    let of : AreCutEdges (cutting_of t plan tiles) edges = subst (λ l. AreCutEdges (cutting_of t l tiles) edges) same e in
    subst (λ z. KeepsCut (cutting_of t plan z) edges nodes faces entities) (sym e.tiles) (record {
      planned = p;
      edges = of;
      nodes = record {
        items = n.items;
        tiles = n.tiles ∙ e.tiles;
        tests = n.tests ∙ nodes_at_ends (primitives_of t.tables) (plan_by plan) p.tileable.few edges of.items of.tests;
        few = n.few;
      };
      faces = subst (λ l. AreCutFaces (cutting_of t l tiles) faces) same f;
      entities = subst (λ l. AreCutEntities (cutting_of t l tiles) entities) same g;
    })

-- the tile of a face has a number of 31 bits
pub plan_few : (k : Cutting) → IsPlanned k → (f t : ℕ) → IsRowOf (length k.source.faces) f → t ≡ plan_by k.plan f → t < 2 ^ 31
plan_few k p f t row is =
    let to : plan_by k.plan f ≤ k.tiles = plan_within k.source (plan_by k.plan) k.tiles p.tileable.plans p.universe f row in
    let few : k.tiles < 2 ^ 31 = p.few in
    omega arith
