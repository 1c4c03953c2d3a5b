-- The nodes, faces and nexts of darts, by the rows of their edges.
use Rattle.std.proofs.Common.{◌≡◌, ℕ, zero, suc, ◌-◌, ◌^◌, ◌<◌, ◌≤◌, Bool, true, false, not, cond, ◌&&◌, eqb, refl, sym, ap, ◌∙◌, arith, Some, None, List, [], ◌∷◌, length, map, get_or}
use Rattle.std.specs.Option.{option_map}
use Rattle.vpf_darts.specs.declared.darts.Dart.{Dart}
use Rattle.vpf_darts.specs.Darts.{code, dart_code, edge_in, flip, sign_of, tile_in}
use Rattle.vpf_prims.specs.declared.rows.Edge.{Edge}
use Rattle.vpf_prims.specs.Lists.{kth}
use Rattle.vpf_prims.specs.Numbering.{IsRowOf}
use Rattle.vpf_prims.specs.Inner.Owning.{NamesItsOwn, OwnsEdge}
use Rattle.vpf_prims.specs.Primitives.{EdgePrimitive, Library, Primitives, absent_edge, own_edge, own_edges, tile_edges, untiled}
use Rattle.vpf_prims.specs.References.{id_of}
use Rattle.vpf_wing.specs.Inner.DartLaws.{code-edge, code-tile, flip-flip, minus-code, none_is_some, same_some, sign-small}
use Rattle.vpf_wing.specs.Links.{edge_of_dart, face_by, is_next, local_next, next_to, node_by, only, wing_by}
use Rattle.vpf_wing.specs.Nexts.{edge_at, face, follows, head, next_dart, no_edge, tail, the_one, wing}
use Rattle.vpf_wing.specs.WellFormed.{IsWellFormed}
use Rattle.vpf_tiling.specs.Presence.{face_of, head_of, next_of, tail_of, untiled_links}
use Rattle.vpf_tiling.specs.Inner.PresenceLaws.{source_next}
use Rattle.vpf_cutting.specs.Inner.WalkLaws.{row_has}

-- the row of the edge of a dart
row_is : (c : Primitives) (e : ℕ) (m : Bool) → e < 2 ^ 32 → edge_of_dart (untiled c) (code 0 e (sign_of m)) ≡ kth c.edges e absent_edge
row_is c e m small =
    let tile : tile_in (code 0 e (sign_of m)) ≡ 0 = code-tile 0 e (sign_of m) small (sign-small m) in
    let edge : edge_in (code 0 e (sign_of m)) ≡ e = code-edge 0 e (sign_of m) small (sign-small m) in
    row_of (untiled c) (tile_in (code 0 e (sign_of m))) (edge_in (code 0 e (sign_of m))) 0 e tile edge
  where
    row_of : (L : Library) (t k s e : ℕ) → t ≡ s → k ≡ e → kth (tile_edges L t) k absent_edge ≡ kth (tile_edges L s) e absent_edge
    row_of L t k s e same_tile same_edge = ap (λ z. kth (tile_edges L z) k absent_edge) same_tile ∙ ap (λ z. kth (tile_edges L s) z absent_edge) same_edge

pub face_is : (c : Primitives) (e : ℕ) (m : Bool) → e < 2 ^ 32 → face_of c (code 0 e (sign_of m)) ≡ id_of (face_by m (kth c.edges e absent_edge))
face_is c e m small =
    ap (λ b. id_of (face_by b (edge_of_dart (untiled c) (code 0 e (sign_of m))))) (minus-code 0 e m)
    ∙ ap (λ r. id_of (face_by m r)) (row_is c e m small)

node_is : (c : Primitives) (e : ℕ) (m : Bool) → e < 2 ^ 32 → ((untiled_links c).node (code 0 e (sign_of m))).id ≡ id_of (node_by m (kth c.edges e absent_edge))
node_is c e m small =
    ap (λ b. id_of (node_by b (edge_of_dart (untiled c) (code 0 e (sign_of m))))) (minus-code 0 e m)
    ∙ ap (λ r. id_of (node_by m r)) (row_is c e m small)

wing_is : (c : Primitives) (e : ℕ) (m : Bool) → e < 2 ^ 32 → ((untiled_links c).wing (code 0 e (sign_of m))).id ≡ id_of (wing_by m (kth c.edges e absent_edge))
wing_is c e m small =
    ap (λ b. id_of (wing_by b (edge_of_dart (untiled c) (code 0 e (sign_of m))))) (minus-code 0 e m)
    ∙ ap (λ r. id_of (wing_by m r)) (row_is c e m small)

-- the other dart of an edge
pub flip_is : (t e : ℕ) (m : Bool) → flip (code t e (sign_of m)) ≡ code t e (sign_of (not m))
unfolding code flip
flip_is t e true = omega arith
flip_is t e false = omega arith

pub tail_is : (c : Primitives) (e : ℕ) (m : Bool) → e < 2 ^ 32 → tail_of c (code 0 e (sign_of m)) ≡ id_of (node_by (not m) (kth c.edges e absent_edge))
tail_is c e m small = ap (λ d. ((untiled_links c).node d).id) (flip_is 0 e m) ∙ node_is c e (not m) small

pub head_is : (c : Primitives) (e : ℕ) (m : Bool) → e < 2 ^ 32 → head_of c (code 0 e (sign_of m)) ≡ id_of (node_by m (kth c.edges e absent_edge))
head_is c e m small = ap (λ d. ((untiled_links c).node d).id) (flip-flip (code 0 e (sign_of m))) ∙ node_is c e m small

-- what a row has on the side of a dart
pub left_face : (c : Primitives) (d : Dart) → d.edge < 2 ^ 32 → d.minus ≡ true → id_of (kth c.edges d.edge absent_edge).left_face ≡ face_of c (dart_code d)
left_face c d small h = ap (λ b. id_of (face_by b (kth c.edges d.edge absent_edge))) (sym h) ∙ sym (face_is c d.edge d.minus small)

pub right_face : (c : Primitives) (d : Dart) → d.edge < 2 ^ 32 → d.minus ≡ false → id_of (kth c.edges d.edge absent_edge).right_face ≡ face_of c (dart_code d)
right_face c d small h = ap (λ b. id_of (face_by b (kth c.edges d.edge absent_edge))) (sym h) ∙ sym (face_is c d.edge d.minus small)

pub start_node : (c : Primitives) (d : Dart) → d.edge < 2 ^ 32 → d.minus ≡ true → id_of (kth c.edges d.edge absent_edge).start_node ≡ head_of c (dart_code d)
start_node c d small h = ap (λ b. id_of (node_by b (kth c.edges d.edge absent_edge))) (sym h) ∙ sym (head_is c d.edge d.minus small)

pub end_node : (c : Primitives) (d : Dart) → d.edge < 2 ^ 32 → d.minus ≡ false → id_of (kth c.edges d.edge absent_edge).end_node ≡ head_of c (dart_code d)
end_node c d small h = ap (λ b. id_of (node_by b (kth c.edges d.edge absent_edge))) (sym h) ∙ sym (head_is c d.edge d.minus small)

-- an edge by its own numbers
own_edge_is : (es : List EdgePrimitive) (i : ℕ) → get_or (map own_edge es) i no_edge ≡ own_edge (get_or es i absent_edge)
own_edge_is [] i = refl
own_edge_is (e ∷ es) zero = refl
own_edge_is (e ∷ es) (suc i) = own_edge_is es i

own_at : (es : List EdgePrimitive) (k : ℕ) → 1 ≤ k → edge_at (map own_edge es) k ≡ own_edge (kth es k absent_edge)
own_at es zero h = absurd (omega arith)
own_at es (suc i) h = let e : suc i - 1 ≡ i = omega arith in rw e (own_edge_is es i)

own_tail : (es : List EdgePrimitive) (k : ℕ) (m : Bool) → 1 ≤ k → tail (map own_edge es) (record { edge = k; minus = m }) ≡ id_of (node_by (not m) (kth es k absent_edge))
unfolding tail
own_tail es k true h = ap (λ (e : Edge). e.end_node) (own_at es k h)
own_tail es k false h = ap (λ (e : Edge). e.start_node) (own_at es k h)

own_face : (es : List EdgePrimitive) (k : ℕ) (m : Bool) → 1 ≤ k → face (map own_edge es) (record { edge = k; minus = m }) ≡ id_of (face_by m (kth es k absent_edge))
unfolding face
own_face es k true h = ap (λ (e : Edge). e.left_face) (own_at es k h)
own_face es k false h = ap (λ (e : Edge). e.right_face) (own_at es k h)

own_wing : (es : List EdgePrimitive) (k : ℕ) (m : Bool) → 1 ≤ k → wing (map own_edge es) (record { edge = k; minus = m }) ≡ id_of (wing_by m (kth es k absent_edge))
unfolding wing
own_wing es k true h = ap (λ (e : Edge). e.left_edge) (own_at es k h)
own_wing es k false h = ap (λ (e : Edge). e.right_edge) (own_at es k h)

-- a dart follows another by the numbers of rows as by its links
follows_is : (c : Primitives) → length c.edges < 2 ^ 24 → (d : Dart) → IsRowOf (length c.edges) d.edge → (k : ℕ) (m : Bool) → IsRowOf (length c.edges) k
    → is_next (untiled_links c) (head_of c (dart_code d)) (face_of c (dart_code d)) (code 0 k (sign_of m)) ≡ follows (own_edges c) d (record { edge = k; minus = m })
follows_is c few d row k m there =
    let top : d.edge ≤ length c.edges = row.1 in
    let low : 1 ≤ d.edge = row.0 in
    let high : k ≤ length c.edges = there.1 in
    let from : tail_of c (code 0 k (sign_of m)) ≡ tail (own_edges c) (record { edge = k; minus = m }) =
    tail_is c k m (omega arith) ∙ sym (own_tail c.edges k m there.0) in
    let to : head_of c (dart_code d) ≡ head (own_edges c) d =
    head_is c d.edge d.minus (omega arith) ∙ twice d.minus (kth c.edges d.edge absent_edge) ∙ sym (own_tail c.edges d.edge (not d.minus) row.0) in
    let mine : face_of c (dart_code d) ≡ face (own_edges c) d = face_is c d.edge d.minus (omega arith) ∙ sym (own_face c.edges d.edge d.minus row.0) in
    let its : face_of c (code 0 k (sign_of m)) ≡ face (own_edges c) (record { edge = k; minus = m }) =
    face_is c k m (omega arith) ∙ sym (own_face c.edges k m there.0) in
    ap (λ b. b && ((eqb (tail_of c (code 0 k (sign_of m))) (head_of c (dart_code d))) && (eqb (face_of c (code 0 k (sign_of m))) (face_of c (dart_code d)))))
    (row_has c k (sign_of m) few (sign-small m) there)
    ∙ tests _ _ _ _ _ _ _ _ from to its mine
  where
    twice : (m : Bool) (e : EdgePrimitive) → id_of (node_by m e) ≡ id_of (node_by (not (not m)) e)
    twice true e = refl
    twice false e = refl

    tests : (a b f g x y u v : ℕ) → a ≡ x → b ≡ y → f ≡ u → g ≡ v → (eqb a b && eqb f g) ≡ (eqb x y && eqb u v)
    tests a b f g x y u v p q r s = rw (p, q, r, s) refl

-- the one of an edge's darts that passes, by two tests
only_is : (p : ℕ → Bool) (z : ℕ) (a b : Bool) (plus minus : Dart) → p z ≡ a → p (flip z) ≡ b → dart_code plus ≡ z → dart_code minus ≡ flip z
    → only p z ≡ option_map dart_code (the_one a b plus minus)
only_is p z a b plus minus x y u v = rw (x, y) (chosen a b) where
  chosen : (a b : Bool) → cond a (cond b None (Some z)) (cond b (Some (flip z)) None) ≡ option_map dart_code (the_one a b plus minus)
  chosen true true = refl
  chosen true false = ap Some (sym u)
  chosen false true = ap Some (sym v)
  chosen false false = refl

next_by : (edges : List Edge) (d : Dart) (w : ℕ) → wing edges d ≡ w
    → next_dart edges d ≡ the_one (follows edges d (record { edge = w; minus = false })) (follows edges d (record { edge = w; minus = true })) (record { edge = w; minus = false }) (record { edge = w; minus = true })
unfolding next_dart
next_by edges d w e = rw e refl

wing_row : (m : Bool) (c : Primitives) (e : EdgePrimitive) → OwnsEdge c e → IsRowOf (length c.edges) (id_of (wing_by m e))
wing_row false c e s = s.right_edge
wing_row true c e s = s.left_edge

-- the local next of a dart is its next by the numbers of rows
next_is_local : (c : Primitives) → length c.edges < 2 ^ 24 → NamesItsOwn c → (d : Dart) → IsRowOf (length c.edges) d.edge
    → local_next (untiled_links c) (dart_code d) ≡ option_map dart_code (next_dart (own_edges c) d)
next_is_local c few own d row =
    let top : d.edge ≤ length c.edges = row.1 in
    let small : d.edge < 2 ^ 32 = omega arith in
    let w : ℕ = id_of (wing_by d.minus (kth c.edges d.edge absent_edge)) in
    let there : IsRowOf (length c.edges) w = wing_row d.minus c (kth c.edges d.edge absent_edge) (own.edges d.edge row) in
    let test : ℕ → Bool = is_next (untiled_links c) ((untiled_links c).node (dart_code d)).id (face_of c (dart_code d)) in
    let node : head_of c (dart_code d) ≡ ((untiled_links c).node (dart_code d)).id = ap (λ x. ((untiled_links c).node x).id) (flip-flip (dart_code d)) in
    let plus : Dart = record { edge = w; minus = false } in
    let minus : Dart = record { edge = w; minus = true } in
    ap (λ t. next_to (untiled_links c) t ((untiled_links c).wing (dart_code d)).id ((untiled_links c).node (dart_code d)).id (face_of c (dart_code d)))
    (code-tile 0 d.edge (sign_of d.minus) small (sign-small d.minus))
    ∙ ap (λ k. only test (code 0 k 0)) (wing_is c d.edge d.minus small)
    ∙ only_is test (code 0 w 0) (follows (own_edges c) d plus) (follows (own_edges c) d minus) plus minus
    (ap (λ n. is_next (untiled_links c) n (face_of c (dart_code d)) (code 0 w 0)) (sym node) ∙ follows_is c few d row w false there)
    (ap test (flip_is 0 w false) ∙ ap (λ n. is_next (untiled_links c) n (face_of c (dart_code d)) (code 0 w 1)) (sym node) ∙ follows_is c few d row w true there)
    refl (sym (flip_is 0 w false))
    ∙ ap (option_map dart_code) (sym (next_by (own_edges c) d w (own_wing c.edges d.edge d.minus row.0)))

-- what the next of a dart of a well-formed coverage is, by the numbers of rows
pub next_is : (c : Primitives) → length c.edges < 2 ^ 24 → IsWellFormed c → NamesItsOwn c → (d next : Dart) → IsRowOf (length c.edges) d.edge
    → Some next ≡ next_dart (own_edges c) d → dart_code next ≡ next_of c (dart_code d)
next_is c few w own d next row is =
    same_some (dart_code next) (next_of c (dart_code d))
    (ap (option_map dart_code) is ∙ sym (next_is_local c few own d row)
    ∙ (source_next c w (dart_code d) (row_has c d.edge (sign_of d.minus) few (sign-small d.minus) row)).next)

-- there is one
pub next_some : (c : Primitives) → length c.edges < 2 ^ 24 → IsWellFormed c → NamesItsOwn c → (d : Dart) → IsRowOf (length c.edges) d.edge
    → None ≡ next_dart (own_edges c) d → ⊥
next_some c few w own d row is =
    none_is_some (next_of c (dart_code d))
    (ap (option_map dart_code) is ∙ sym (next_is_local c few own d row)
    ∙ (source_next c w (dart_code d) (row_has c d.edge (sign_of d.minus) few (sign-small d.minus) row)).next)
