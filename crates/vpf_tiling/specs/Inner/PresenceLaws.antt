-- What is so of the darts of a well-formed coverage, and of what is present in a tile.
use Rattle.std.proofs.Common.{◌≡◌, ℕ, zero, suc, ◌<◌, ◌≤◌, Bool, true, false, eqb, ◌&&◌, refl, sym, ap, ◌∙◌, subst, inl, inr, arith, Some, List, [], ◌∷◌, length, ◌⊎◌, cond, leb, ◌≢◌}
use Rattle.std.specs.Prelude.{filter}
use Rattle.std.specs.List.{list_any}
use Rattle.std.proofs.lemmas.Bool.{cases_Bool, cases_eq, and_parts, or_cases, or_left, or_right, eqb-true, eq-eqb, or_from, and_from, leb-true, le-leb}
use Rattle.vpf_darts.specs.Darts.{code, tile_in, edge_in, flip, sign_in}
use Rattle.vpf_darts.specs.Maps.{is_of, is_of_any}
use Rattle.vpf_prims.specs.Primitives.{Primitives, untiled, absent_edge, Library, EdgePrimitive, tile_edges, edge_count, node_count}
use Rattle.vpf_wing.specs.Links.{DartLinks, links_of, tail_node, is_next, local_next, link_of, is_minus, node_by, face_by, local_map}
use Rattle.vpf_wing.specs.WellFormed.{IsDartOf, IsWellFormed}
use Rattle.vpf_wing.specs.Inner.DartLaws.{never_both, stands_in, stands-left, stands-right, IsThere, has-there, only-passes, flip-edge, code-parts, sign-cases, flip-flip, flip-has}
use Rattle.vpf_tiling.specs.Ranks.{up_to}
use Rattle.vpf_tiling.specs.Inner.RankLaws.{up-last}
use Rattle.vpf_tiling.specs.Presence.{untiled_links, is_within, has_edge, face_of, holds_face, is_present, next_of, tail_of, head_of, has_node}
use Rattle.vpf_prims.specs.Lists.{kth}
use Rattle.std.specs.Option.{unwrap_or}
use Rattle.vpf_triplet.specs.declared.triplets.Triplet.{Triplet}
use Rattle.vpf_prims.specs.References.{id_of}
use Rattle.vpf_prims.specs.Numbering.{IsFace, IsEdgeOf, IsReference}

pub up_stands : (n k : ℕ) → 1 ≤ k → k ≤ n → stands_in k (up_to n) ≡ true
up_stands zero k a b = absurd (omega arith)
up_stands (suc n) k a b = subst (λ z. stands_in k z ≡ true) (sym (up-last n)) (elim (cases_eq k (suc n)) [
  | inl e ↦ stands-right k (up_to n) (suc n ∷ []) (or_left (eqb k (suc n)) false (eq-eqb k (suc n) e))
  | inr ne ↦ stands-left k (up_to n) (suc n ∷ []) (up_stands n k a (omega arith))
])

-- one that passes, of those that are there
pub record Passes (p : ℕ → Bool) (xs : List ℕ) : Type 0 where
  pub one : ℕ
  pub in_list : stands_in one xs ≡ true
  pub passes : p one ≡ true

pub any_at : (p : ℕ → Bool) (xs : List ℕ) → list_any p xs ≡ true → Passes p xs
any_at p [] h = absurd (never_both false h refl)
any_at p (x ∷ xs) h = elim (or_cases (p x) (list_any p xs) h) [
  | inl a ↦ record { one = x; in_list = or_left (eqb x x) (stands_in x xs) (eq-eqb x x refl); passes = a }
  | inr b ↦ (
      let r : Passes p xs = any_at p xs b in
      record { one = r.one; in_list = or_right (eqb r.one x) (stands_in r.one xs) r.in_list; passes = r.passes })
]

pub any_from : (p : ℕ → Bool) (xs : List ℕ) (x : ℕ) → stands_in x xs ≡ true → p x ≡ true → list_any p xs ≡ true
any_from p [] x s h = absurd (never_both false s refl)
any_from p (y ∷ ys) x s h = elim (or_cases (eqb x y) (stands_in x ys) s) [
  | inl e ↦ or_left (p y) (list_any p ys) (ap p (sym (eqb-true x y e)) ∙ h)
  | inr r ↦ or_right (p y) (list_any p ys) (any_from p ys x r h)
]

-- what the local next of a dart is
pub record NextIs (C : DartLinks) (x y : ℕ) : Type 0 where
  pub next : local_next C x ≡ Some y
  pub has : C.has y ≡ true
  pub tail : tail_node C y ≡ (C.node x).id
  pub face : (C.face y).id ≡ (C.face x).id

pub next_is : (C : DartLinks) (x y : ℕ) → local_next C x ≡ Some y → NextIs C x y
next_is C x y h =
    let p = (only-passes (is_next C (C.node x).id (C.face x).id) (code (tile_in x) (C.wing x).id 0) y h).0 in
    let q = and_parts (C.has y) (eqb (tail_node C y) (C.node x).id && eqb (C.face y).id (C.face x).id) p in
    let r = and_parts (eqb (tail_node C y) (C.node x).id) (eqb (C.face y).id (C.face x).id) q.1 in
    record { next = h; has = q.0; tail = eqb-true _ _ r.0; face = eqb-true _ _ r.1 }

-- the darts of an untiled coverage are in tile 0
pub in_zero : (c : Primitives) (d : ℕ) → (links_of (untiled c)).has d ≡ true → IsDartOf (links_of (untiled c)) 0 d
in_zero c d h = let i : IsThere (untiled c) d = has-there (untiled c) d h in let l = i.to_last in record { has = h; tile = omega arith }

-- a dart of the edge of one of these is of one of them
pub of_any_from : (fl : ℕ → ℕ) (e x : ℕ) (xs : List ℕ) → stands_in e xs ≡ true → is_of fl e x ≡ true → is_of_any fl xs x ≡ true
of_any_from fl e x [] s h = absurd (never_both false s refl)
of_any_from fl e x (y ∷ ys) s h = elim (or_cases (eqb e y) (stands_in e ys) s) [
  | inl a ↦ or_left (is_of fl y x) (is_of_any fl ys x) (subst (λ z. is_of fl z x ≡ true) (eqb-true e y a) h)
  | inr b ↦ or_right (is_of fl y x) (is_of_any fl ys x) (of_any_from fl e x ys b h)
]

pub edge-zero : edge_in (code 0 0 0) ≡ 0
unfolding code edge_in
edge-zero = refl

-- there is no edge 0
pub not_within : (c : Primitives) (plan : ℕ → ℕ) (t d : ℕ) → edge_in d ≡ 0 → is_within c plan t d ≡ false
not_within c plan t d z = elim (cases_Bool (is_within c plan t d)) [
  | inl h ↦ (let i : IsThere (untiled c) d = has-there (untiled c) d (and_parts ((untiled_links c).has d) _ h).0 in let a = i.from_one in absurd (omega arith))
  | inr g ↦ g
]

pub no_edge_zero : (c : Primitives) (plan : ℕ → ℕ) (t : ℕ) → has_edge c plan t 0 ≡ false
no_edge_zero c plan t =
    or_from (is_within c plan t (code 0 0 0)) (is_within c plan t (flip (code 0 0 0))) (not_within c plan t (code 0 0 0) edge-zero)
    (not_within c plan t (flip (code 0 0 0)) (flip-edge (code 0 0 0) ∙ edge-zero))

pub other-code : (e : ℕ) → flip (code 0 e 1) ≡ code 0 e 0
unfolding code flip
other-code e = omega arith

pub sign-below : (d : ℕ) → sign_in d < 2
sign-below d = elim (sign-cases d) [ inl z ↦ omega arith | inr o ↦ omega arith ]

-- a dart of an untiled coverage by its edge and its sign
pub dart_is : (c : Primitives) (d : ℕ) → (untiled_links c).has d ≡ true → code 0 (edge_in d) (sign_in d) ≡ d
dart_is c d h = ap (λ t. code t (edge_in d) (sign_in d)) (sym (in_zero c d h).tile) ∙ code-parts d

pub present_has : (c : Primitives) (plan : ℕ → ℕ) (t d : ℕ) → is_present c plan t d ≡ true → (untiled_links c).has d ≡ true
present_has c plan t d h = elim (or_cases (is_within c plan t d) (is_within c plan t (flip d)) h) [
  | inl a ↦ (and_parts ((untiled_links c).has d) _ a).0
  | inr b ↦ subst (λ z. (untiled_links c).has z ≡ true) (flip-flip d) (flip-has (untiled c) (flip d) (and_parts ((untiled_links c).has (flip d)) _ b).0)
]

pub present_flip : (c : Primitives) (plan : ℕ → ℕ) (t d : ℕ) → is_present c plan t d ≡ true → is_present c plan t (flip d) ≡ true
present_flip c plan t d h = elim (or_cases (is_within c plan t d) (is_within c plan t (flip d)) h) [
  | inl a ↦ or_right (is_within c plan t (flip d)) (is_within c plan t (flip (flip d))) (ap (is_within c plan t) (flip-flip d) ∙ a)
  | inr b ↦ or_left (is_within c plan t (flip d)) (is_within c plan t (flip (flip d))) b
]

pub plus_or : (d : ℕ) → code 0 (edge_in d) (sign_in d) ≡ d → (code 0 (edge_in d) 0 ≡ d) ⊎ (code 0 (edge_in d) 0 ≡ flip d)
plus_or d e = elim (sign-cases d) [
  | inl z ↦ inl (ap (code 0 (edge_in d)) (sym z) ∙ e)
  | inr o ↦ inr (sym (other-code (edge_in d)) ∙ ap (λ s. flip (code 0 (edge_in d) s)) (sym o) ∙ ap flip e)
]

pub edge_present : (c : Primitives) (plan : ℕ → ℕ) (t d : ℕ) → is_present c plan t d ≡ true → has_edge c plan t (edge_in d) ≡ true
edge_present c plan t d h = elim (plus_or d (dart_is c d (present_has c plan t d h))) [
  | inl e ↦ ap (is_present c plan t) e ∙ h
  | inr e ↦ ap (is_present c plan t) e ∙ present_flip c plan t d h
]

-- a face of the tile
pub record Held (c : Primitives) (plan : ℕ → ℕ) (t : ℕ) : Type 0 where
  pub face : ℕ
  pub from_two : 2 ≤ face
  pub to_last : face ≤ length c.faces
  pub planned : plan face ≡ t

pub held_of : (c : Primitives) (plan : ℕ → ℕ) (t d : ℕ) → is_within c plan t d ≡ true → Held c plan t
held_of c plan t d h = (
    let f : ℕ = face_of c d in
    let a = and_parts ((untiled_links c).has d) (holds_face c plan t f) h in
    let b = and_parts (leb 2 f && leb f (length c.faces)) (eqb (plan f) t) a.1 in
    let r = and_parts (leb 2 f) (leb f (length c.faces)) b.0 in
    record { face = f; from_two = leb-true 2 f r.0; to_last = leb-true f (length c.faces) r.1; planned = eqb-true (plan f) t b.1 })

pub held : (c : Primitives) (plan : ℕ → ℕ) (t d : ℕ) → is_present c plan t d ≡ true → Held c plan t
held c plan t d h =
    elim (or_cases (is_within c plan t d) (is_within c plan t (flip d)) h) [ inl a ↦ held_of c plan t d a | inr b ↦ held_of c plan t (flip d) b ]

pub holds_held : (c : Primitives) (plan : ℕ → ℕ) (t : ℕ) (k : Held c plan t) → holds_face c plan t k.face ≡ true
holds_held c plan t k =
    and_from (leb 2 k.face && leb k.face (length c.faces)) (eqb (plan k.face) t)
    (and_from (leb 2 k.face) (leb k.face (length c.faces)) (le-leb 2 k.face k.from_two) (le-leb k.face (length c.faces) k.to_last))
    (eq-eqb (plan k.face) t k.planned)

pub stands_filter : (p : ℕ → Bool) (x : ℕ) (xs : List ℕ) → p x ≡ true → stands_in x xs ≡ true → stands_in x (filter p xs) ≡ true
stands_filter p x [] h s = absurd (never_both false s refl)
stands_filter p x (y ∷ ys) h s = elim (or_cases (eqb x y) (stands_in x ys) s) [
  | inl e ↦ (let t : p y ≡ true = ap p (sym (eqb-true x y e)) ∙ h in rw t (or_left (eqb x y) (stands_in x (filter p ys)) e))
  | inr r ↦ (elim (cases_Bool (p y)) [
    | inl t ↦ rw t (or_right (eqb x y) (stands_in x (filter p ys)) (stands_filter p x ys h r))
    | inr u ↦ rw u (stands_filter p x ys h r)
  ])
]

-- the next of a dart of a well-formed coverage
pub source_next : (c : Primitives) → IsWellFormed c → (d : ℕ) → (untiled_links c).has d ≡ true → NextIs (untiled_links c) d (next_of c d)
source_next c w d h = (
    let e = w.cycles.next d (in_zero c d h) in
    let is : next_of c d ≡ e.0 = next_at (untiled_links c) d h e.0 e.1 in
    subst (NextIs (untiled_links c) d) (sym is) (next_is (untiled_links c) d e.0 e.1))
  where
    next_at : (C : DartLinks) (d : ℕ) → C.has d ≡ true → (e : ℕ) → local_next C d ≡ Some e → (local_map C).next d ≡ e
    next_at C d h e is = ap (λ b. cond b (unwrap_or (local_next C d) d) d) h ∙ ap (λ o. unwrap_or o d) is

pub face_next : (c : Primitives) → IsWellFormed c → (d : ℕ) → (untiled_links c).has d ≡ true → face_of c (next_of c d) ≡ face_of c d
face_next c w d h = (source_next c w d h).face

pub tail_next : (c : Primitives) → IsWellFormed c → (d : ℕ) → (untiled_links c).has d ≡ true → tail_of c (next_of c d) ≡ head_of c d
tail_next c w d h = (source_next c w d h).tail ∙ ap (λ x. ((untiled_links c).node x).id) (sym (flip-flip d))

-- the face of a dart is a face of the coverage
pub record InFaces (c : Primitives) (f : ℕ) : Type 0 where
  pub from_one : 1 ≤ f
  pub to_last : f ≤ length c.faces

pub plain_faces : (c : Primitives) (r : Triplet) → IsFace (untiled c) 0 r → InFaces c (id_of r)
plain_faces c r h = elim h [
  | inl p ↦
      (let e : id_of r ≡ p.id = ap id_of p.is in
      record { from_one = subst (λ z. 1 ≤ z) (sym e) p.from_low; to_last = subst (λ z. z ≤ length c.faces) (sym e) p.to_last })
  | inr x ↦ absurd (never_both false x.0.of_tiles refl)
]

pub in_faces : (c : Primitives) → IsWellFormed c → (d : ℕ) → (untiled_links c).has d ≡ true → InFaces c (face_of c d)
in_faces c w d h = (
    let L : Library = untiled c in
    let i : IsThere L d = has-there L d h in
    let z : tile_in d ≡ 0 = (in_zero c d h).tile in
    let e : IsEdgeOf L 0 (edge_in d) (kth (tile_edges L 0) (edge_in d) absent_edge) =
    w.numbered.edges (edge_in d) (i.from_one, subst (λ t. edge_in d ≤ edge_count L t) z i.to_count) in
    let r : IsEdgeOf L 0 (edge_in d) (kth (tile_edges L (tile_in d)) (edge_in d) absent_edge) =
    subst (λ t. IsEdgeOf L 0 (edge_in d) (kth (tile_edges L t) (edge_in d) absent_edge)) (sym z) e in
    side (is_minus d) (kth (tile_edges L (tile_in d)) (edge_in d) absent_edge) r)
  where
    side : (m : Bool) (row : EdgePrimitive) → IsEdgeOf (untiled c) 0 (edge_in d) row → InFaces c (link_of (face_by m row)).id
    side true row r = plain_faces c row.left_face r.left_face
    side false row r = plain_faces c row.right_face r.right_face

pub holds_from : (c : Primitives) (plan : ℕ → ℕ) (t f : ℕ) → InFaces c f → f ≢ 1 → plan f ≡ t → holds_face c plan t f ≡ true
holds_from c plan t f i ne p =
    (let a = i.from_one in
    and_from (leb 2 f && leb f (length c.faces)) (eqb (plan f) t)
    (and_from (leb 2 f) (leb f (length c.faces)) (le-leb 2 f (omega arith)) (le-leb f (length c.faces) i.to_last)) (eq-eqb (plan f) t p))

-- the node of a dart is a node of the coverage
pub record InNodes (c : Primitives) (n : ℕ) : Type 0 where
  pub from_one : 1 ≤ n
  pub to_last : n ≤ length c.nodes

pub plain_nodes : (c : Primitives) (r : Triplet) → IsReference (untiled c) (node_count (untiled c)) 0 r → InNodes c (id_of r)
plain_nodes c r h = elim h [
  | inl p ↦
      (let e : id_of r ≡ p.id = ap id_of p.is in
      record { from_one = subst (λ z. 1 ≤ z) (sym e) p.from_low; to_last = subst (λ z. z ≤ length c.nodes) (sym e) p.to_last })
  | inr x ↦ absurd (never_both false x.of_tiles refl)
]

pub in_nodes : (c : Primitives) → IsWellFormed c → (d : ℕ) → (untiled_links c).has d ≡ true → InNodes c ((untiled_links c).node d).id
in_nodes c w d h = (
    let L : Library = untiled c in
    let i : IsThere L d = has-there L d h in
    let z : tile_in d ≡ 0 = (in_zero c d h).tile in
    let e : IsEdgeOf L 0 (edge_in d) (kth (tile_edges L 0) (edge_in d) absent_edge) =
    w.numbered.edges (edge_in d) (i.from_one, subst (λ t. edge_in d ≤ edge_count L t) z i.to_count) in
    let r : IsEdgeOf L 0 (edge_in d) (kth (tile_edges L (tile_in d)) (edge_in d) absent_edge) =
    subst (λ t. IsEdgeOf L 0 (edge_in d) (kth (tile_edges L t) (edge_in d) absent_edge)) (sym z) e in
    side (is_minus d) (kth (tile_edges L (tile_in d)) (edge_in d) absent_edge) r)
  where
    side : (m : Bool) (row : EdgePrimitive) → IsEdgeOf (untiled c) 0 (edge_in d) row → InNodes c (link_of (node_by m row)).id
    side true row r = plain_nodes c row.start_node r.start_node
    side false row r = plain_nodes c row.end_node r.end_node

pub tail_in_nodes : (c : Primitives) → IsWellFormed c → (d : ℕ) → (untiled_links c).has d ≡ true → InNodes c (tail_of c d)
tail_in_nodes c w d h = in_nodes c w (flip d) (flip-has (untiled c) d h)

-- a present dart that begins at a present node
pub record AtNode (c : Primitives) (plan : ℕ → ℕ) (t n : ℕ) : Type 0 where
  pub dart : ℕ
  pub present : is_present c plan t dart ≡ true
  pub tail : tail_of c dart ≡ n

pub at_node : (c : Primitives) (plan : ℕ → ℕ) (t n : ℕ) → has_node c plan t n ≡ true → AtNode c plan t n
at_node c plan t n h = (
    let a : Passes (λ d. is_present c plan t d && eqb (tail_of c d) n) (untiled_links c).darts =
    any_at (λ d. is_present c plan t d && eqb (tail_of c d) n) (untiled_links c).darts h in
    let p = and_parts (is_present c plan t a.one) (eqb (tail_of c a.one) n) a.passes in
    record { dart = a.one; present = p.0; tail = eqb-true (tail_of c a.one) n p.1 })

pub no_node_zero : (c : Primitives) (plan : ℕ → ℕ) → IsWellFormed c → (t : ℕ) → has_node c plan t 0 ≡ false
no_node_zero c plan w t = elim (cases_Bool (has_node c plan t 0)) [
  | inl h ↦
      (let a : AtNode c plan t 0 = at_node c plan t 0 h in let b = (tail_in_nodes c w a.dart (present_has c plan t a.dart a.present)).from_one in let e = a.tail in
      absurd (omega arith))
  | inr f ↦ f
]
