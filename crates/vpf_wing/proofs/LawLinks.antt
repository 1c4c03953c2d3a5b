-- What is said of the darts of a tile by their numbers, by their places.
use Rattle.std.proofs.Common.{◌≡◌, ℕ, suc, ◌+◌, ◌-◌, ◌*◌, ◌/◌, ◌%◌, ◌^◌, ◌<◌, ◌≤◌, Bool, true, false, not, cond, eqb, Some, None, List, length, map, refl, sym, ap, ◌∙◌, inl, inr, arith}
use Rattle.std.proofs.Math.ListN.{get_or-map}
use Rattle.std.proofs.lemmas.Bool.{cases_eq}
use Rattle.std.proofs.lemmas.List.{length-map}
use Rattle.std.specs.Option.{option_map}
use Rattle.vpf_darts.specs.declared.darts.Dart.{Dart}
use Rattle.vpf_darts.specs.Darts.{code, tile_in, edge_in, flip, dart_code}
use Rattle.vpf_darts.specs.MapLists.{dart_place}
use Rattle.vpf_prims.specs.declared.rows.Edge.{Edge}
use Rattle.vpf_prims.specs.Lists.{kth}
use Rattle.vpf_prims.specs.References.{id_of}
use Rattle.vpf_prims.specs.Edges.{IsEdge}
use Rattle.vpf_prims.specs.Primitives.{EdgePrimitive, Library, absent_edge, tile_edges, edge_count, own_edge}
use Rattle.vpf_wing.specs.Nexts.{edge_at, dart_at, flipped, tail, head, face, wing, follows, the_one, next_dart}
use Rattle.vpf_wing.specs.Places.{flip_place}
use Rattle.vpf_wing.specs.Links.{DartLinks, links_of, edge_of_dart, is_minus, wing_by, node_by, face_by, tail_node, only, is_next, local_next}
use Rattle.vpf_wing.proofs.LawDarts.{number_at, number-tile, number-edge, number-sign, number_dart}
use Rattle.vpf_wing.proofs.MapLemmas.{code_is}

-- the edges of a tile by their own numbers
abbrev pub rows_of : Library → ℕ → List Edge
rows_of L t = map own_edge (tile_edges L t)

pub rows_count : (L : Library) (t : ℕ) → length (rows_of L t) ≡ edge_count L t
rows_count L t = length-map (tile_edges L t) own_edge

pub edge_row : (xs : List EdgePrimitive) (k : ℕ) → own_edge (kth xs (k + 1) absent_edge) ≡ edge_at (map own_edge xs) (k + 1)
edge_row xs k =
    let s : k + 1 ≡ suc k = omega arith in
    let z : suc k - 1 ≡ k = omega arith in
    rw (s, z) (sym (get_or-map own_edge xs k absent_edge))

-- the edge of the dart at a place, and whether it is the - dart
pub number_row : (L : Library) (t p : ℕ) → p < 2 ^ 25 → own_edge (edge_of_dart L (number_at t p)) ≡ edge_at (rows_of L t) (p / 2 + 1)
number_row L t p few =
    ap (λ s. own_edge (kth (tile_edges L s) (edge_in (number_at t p)) absent_edge)) (number-tile t p few)
    ∙ ap (λ e. own_edge (kth (tile_edges L t) e absent_edge)) (number-edge t p few)
    ∙ edge_row (tile_edges L t) (p / 2)

pub number_minus : (t p : ℕ) → is_minus (number_at t p) ≡ eqb (p % 2) 1
number_minus t p = ap (λ s. eqb s 1) (number-sign t p)

face_side : (m : Bool) (e : EdgePrimitive) → id_of (face_by m e) ≡ cond m (own_edge e).left_face (own_edge e).right_face
face_side true e = refl
face_side false e = refl

wing_side : (m : Bool) (e : EdgePrimitive) → id_of (wing_by m e) ≡ cond m (own_edge e).left_edge (own_edge e).right_edge
wing_side true e = refl
wing_side false e = refl

node_side : (m : Bool) (e : EdgePrimitive) → id_of (node_by m e) ≡ cond (not m) (own_edge e).end_node (own_edge e).start_node
node_side true e = refl
node_side false e = refl

pub number_face : (L : Library) (t p : ℕ) → p < 2 ^ 25 → ((links_of L).face (number_at t p)).id ≡ face (rows_of L t) (dart_at p)
unfolding face
number_face L t p few =
    face_side (is_minus (number_at t p)) (edge_of_dart L (number_at t p))
    ∙ ap (λ (e : Edge). cond (is_minus (number_at t p)) e.left_face e.right_face) (number_row L t p few)
    ∙ ap (λ m. cond m (edge_at (rows_of L t) (p / 2 + 1)).left_face (edge_at (rows_of L t) (p / 2 + 1)).right_face) (number_minus t p)

pub number_wing : (L : Library) (t p : ℕ) → p < 2 ^ 25 → ((links_of L).wing (number_at t p)).id ≡ wing (rows_of L t) (dart_at p)
unfolding wing
number_wing L t p few =
    wing_side (is_minus (number_at t p)) (edge_of_dart L (number_at t p))
    ∙ ap (λ (e : Edge). cond (is_minus (number_at t p)) e.left_edge e.right_edge) (number_row L t p few)
    ∙ ap (λ m. cond m (edge_at (rows_of L t) (p / 2 + 1)).left_edge (edge_at (rows_of L t) (p / 2 + 1)).right_edge) (number_minus t p)

pub number_node : (L : Library) (t p : ℕ) → p < 2 ^ 25 → ((links_of L).node (number_at t p)).id ≡ head (rows_of L t) (dart_at p)
unfolding tail
number_node L t p few =
    node_side (is_minus (number_at t p)) (edge_of_dart L (number_at t p))
    ∙ ap (λ (e : Edge). cond (not (is_minus (number_at t p))) e.end_node e.start_node) (number_row L t p few)
    ∙ ap (λ m. cond (not m) (edge_at (rows_of L t) (p / 2 + 1)).end_node (edge_at (rows_of L t) (p / 2 + 1)).start_node) (number_minus t p)

-- the other dart of the edge
pub flip_below : (n p : ℕ) → p < 2 * n → flip_place p < 2 * n
flip_below n p h = omega arith

pub flip_back : (p : ℕ) → flip_place (flip_place p) ≡ p
flip_back p = omega arith

pub number_flip : (t p : ℕ) → flip (number_at t p) ≡ number_at t (flip_place p)
unfolding code flip
number_flip t p = omega arith

pub flip_dart : (p : ℕ) → dart_at (flip_place p) ≡ flipped (dart_at p)
flip_dart p =
    let half : (p + 1 - 2 * (p % 2)) / 2 ≡ p / 2 = omega arith in
    elim (cases_eq (p % 2) 1) [
      | inl odd ↦ (let o : (p + 1 - 2 * (p % 2)) % 2 ≡ 0 = omega arith in rw (half, o, odd) refl)
      | inr ne ↦ (let z : p % 2 ≡ 0 = omega arith in let o : (p + 1 - 2 * (p % 2)) % 2 ≡ 1 = omega arith in rw (half, o, z) refl)
    ]

tail_twice : (edges : List Edge) (k : ℕ) (m : Bool) → tail edges (record { edge = k; minus = not (not m) }) ≡ tail edges (record { edge = k; minus = m })
tail_twice edges k true = refl
tail_twice edges k false = refl

pub head_flip : (edges : List Edge) (p : ℕ) → head edges (dart_at (flip_place p)) ≡ tail edges (dart_at p)
head_flip edges p = ap (head edges) (flip_dart p) ∙ tail_twice edges (p / 2 + 1) (eqb (p % 2) 1)

pub number_tail : (L : Library) (t p : ℕ) → p < 2 ^ 25 → tail_node (links_of L) (number_at t p) ≡ tail (rows_of L t) (dart_at p)
number_tail L t p few =
    ap (λ d. ((links_of L).node d).id) (number_flip t p)
    ∙ number_node L t (flip_place p) (omega arith)
    ∙ head_flip (rows_of L t) p

-- the number of a dart in its tile
abbrev pub dart_number : ℕ → Dart → ℕ
dart_number t d = number_at t (dart_place (dart_code d))

abbrev pub plus_of : ℕ → Dart
plus_of w = record { edge = w; minus = false }

abbrev pub minus_of : ℕ → Dart
minus_of w = record { edge = w; minus = true }

plus_place : (w : ℕ) → dart_place (dart_code (plus_of w)) ≡ 2 * (w - 1)
plus_place w = omega (arith, code_is (plus_of w))

minus_place : (w : ℕ) → 1 ≤ w → dart_place (dart_code (minus_of w)) ≡ 2 * (w - 1) + 1
minus_place w h = omega (arith, code_is (minus_of w))

pub plus_number : (t w : ℕ) → 1 ≤ w → code t w 0 ≡ number_at t (2 * (w - 1))
unfolding code
plus_number t w h = omega arith

minus_number : (t w : ℕ) → 1 ≤ w → flip (code t w 0) ≡ number_at t (2 * (w - 1) + 1)
unfolding code flip
minus_number t w h = omega arith

pub minus_code : (t w : ℕ) → 1 ≤ w → code t w 1 ≡ number_at t (2 * (w - 1) + 1)
unfolding code
minus_code t w h = omega arith

pub plus_dart : (w : ℕ) → 1 ≤ w → dart_at (2 * (w - 1)) ≡ plus_of w
plus_dart w h =
    let half : (2 * (w - 1)) / 2 + 1 ≡ w = omega arith in
    let even : (2 * (w - 1)) % 2 ≡ 0 = omega arith in
    rw (half, even) refl

pub minus_dart : (w : ℕ) → 1 ≤ w → dart_at (2 * (w - 1) + 1) ≡ minus_of w
minus_dart w h =
    let half : (2 * (w - 1) + 1) / 2 + 1 ≡ w = omega arith in
    let odd : (2 * (w - 1) + 1) % 2 ≡ 1 = omega arith in
    rw (half, odd) refl

-- a dart of the tile follows another by the rows as by the numbers
number_follows : (L : Library) (t p q : ℕ) → t ≤ L.last → edge_count L t < 2 ^ 24 → p < 2 * edge_count L t → q < 2 * edge_count L t
    → is_next (links_of L) ((links_of L).node (number_at t p)).id ((links_of L).face (number_at t p)).id (number_at t q) ≡ follows (rows_of L t)
    (dart_at p) (dart_at q)
number_follows L t p q last few hp hq =
    rw (
      (number_dart L t q last few hq).has,
      number_tail L t q (omega arith),
      number_node L t p (omega arith),
      number_face L t q (omega arith),
      number_face L t p (omega arith),
    ) refl

only_is : (P : ℕ → Bool) (z f : ℕ) (a b : Bool) → flip z ≡ f → P z ≡ a → P f ≡ b → only P z ≡ cond a (cond b None (Some z)) (cond b (Some f) None)
only_is P z f a b e pz pf = rw (e, pz, pf) refl

the_one_is : (g : Dart → ℕ) (a b : Bool) (x y : Dart) → cond a (cond b None (Some (g x))) (cond b (Some (g y)) None) ≡ option_map g (the_one a b x y)
the_one_is g true true x y = refl
the_one_is g true false x y = refl
the_one_is g false true x y = refl
the_one_is g false false x y = refl

-- the local next of a dart is the next by the rows
pub number_next : (L : Library) (t p : ℕ) → t ≤ L.last → edge_count L t < 2 ^ 24 → p < 2 * edge_count L t
    → IsEdge (edge_count L t) (wing (rows_of L t) (dart_at p))
    → local_next (links_of L) (number_at t p) ≡ option_map (dart_number t) (next_dart (rows_of L t) (dart_at p))
unfolding next_dart
number_next L t p last few hp edge =
    let C : DartLinks = links_of L in
    let w : ℕ = wing (rows_of L t) (dart_at p) in
    let low : 1 ≤ wing (rows_of L t) (dart_at p) = edge.0 in
    let high : wing (rows_of L t) (dart_at p) ≤ edge_count L t = edge.1 in
    let test : ℕ → Bool = is_next C (C.node (number_at t p)).id (C.face (number_at t p)).id in
    let at : code (tile_in (number_at t p)) (C.wing (number_at t p)).id 0 ≡ number_at t (2 * (w - 1)) =
    ap (λ s. code s (C.wing (number_at t p)).id 0) (number-tile t p (omega arith)) ∙ ap (λ e. code t e 0) (number_wing L t p (omega arith))
    ∙ plus_number t w low in
    let turned : flip (number_at t (2 * (w - 1))) ≡ number_at t (2 * (w - 1) + 1) = ap flip (sym (plus_number t w low)) ∙ minus_number t w low in
    let a : test (number_at t (2 * (w - 1))) ≡ follows (rows_of L t) (dart_at p) (plus_of w) =
    number_follows L t p (2 * (w - 1)) last few hp (omega arith) ∙ ap (follows (rows_of L t) (dart_at p)) (plus_dart w low) in
    let b : test (number_at t (2 * (w - 1) + 1)) ≡ follows (rows_of L t) (dart_at p) (minus_of w) =
    number_follows L t p (2 * (w - 1) + 1) last few hp (omega arith) ∙ ap (follows (rows_of L t) (dart_at p)) (minus_dart w low) in
    let x : number_at t (2 * (w - 1)) ≡ dart_number t (plus_of w) = ap (number_at t) (sym (plus_place w)) in
    let y : number_at t (2 * (w - 1) + 1) ≡ dart_number t (minus_of w) = ap (number_at t) (sym (minus_place w low)) in
    let fa : Bool = follows (rows_of L t) (dart_at p) (plus_of w) in
    let fb : Bool = follows (rows_of L t) (dart_at p) (minus_of w) in
    ap (only test) at
    ∙ only_is test (number_at t (2 * (w - 1))) (number_at t (2 * (w - 1) + 1)) fa fb turned a b
    ∙ ap (λ v. cond fa (cond fb None (Some v)) (cond fb (Some (number_at t (2 * (w - 1) + 1))) None)) x
    ∙ ap (λ v. cond fa (cond fb None (Some (dart_number t (plus_of w)))) (cond fb (Some v) None)) y
    ∙ the_one_is (dart_number t) fa fb (plus_of w) (minus_of w)
