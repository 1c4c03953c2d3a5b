-- The next of a copy in its tile.
use Rattle.std.proofs.Common.{◌≡◌, ◌≢◌, ℕ, zero, suc, ◌≤◌, Bool, true, false, not, eqb, ◌&&◌, refl, sym, ap, ◌∙◌, subst, inl, inr, Some, List, [], ◌∷◌, length, map}
use Rattle.std.proofs.lemmas.Bool.{cases_Bool, cases_eq, and_parts, and_from, or_cases, or_left, or_right, eqb-true, eq-eqb, ne_eqb}
use Rattle.vpf_darts.specs.Darts.{code, tile_in, edge_in, sign_in, flip}
use Rattle.vpf_darts.specs.Inner.Laws.{ComesRoundTo}
use Rattle.vpf_darts.specs.Maps.{is_of, is_of_any}
use Rattle.vpf_tiling.specs.Ranks.{up_to}
use Rattle.vpf_prims.specs.Primitives.{Primitives, untiled, edge_count}
use Rattle.vpf_wing.specs.Links.{DartLinks, link_of, tail_node, only, is_next, next_to}
use Rattle.vpf_tiling.specs.Presence.{untiled_links, coverage_map, next_of, tail_of, head_of, face_of, edge_darts, is_within, is_present, local_edge, local_node, local_face, copy_in, absent_darts, tile_map}
use Rattle.vpf_tiling.specs.Tiles.{tiled_face}
use Rattle.vpf_wing.specs.WellFormed.{IsWellFormed}
use Rattle.vpf_tiling.specs.Plans.{IsTileable}
use Rattle.vpf_tiling_laws.proofs.tiled.Parts.{HasLinks, TileNextIsLocal}
use Rattle.vpf_wing.specs.Inner.DartLaws.{never_both, stands_in, IsThere, has-there, flip-flip, flip-has}
use Rattle.vpf_tiling_laws.proofs.tiled.Facts.{MapLaws}
use Rattle.vpf_tiling_laws.proofs.tiled.CopyLemmas.{CopyAt, copy_at, copies_have_links}
use Rattle.vpf_tiling_laws.proofs.tiled.SideLemmas.{Within, within_is, within_from, rank_apart, node_apart, same_plus, above}
use Rattle.vpf_tiling_laws.proofs.tiled.FollowLemmas.{present_stays, next_is_first, copy_flip, plus_of, only_of, library_links, reference_id, tail_at}
use Rattle.vpf_tiling.specs.Inner.PresenceLaws.{InFaces, dart_is, face_next, holds_from, in_faces, in_zero, of_any_from, plus_or, present_flip, present_has, sign-below, source_next, stands_filter, tail_next, up_stands}

pub stands_map : (f : ℕ → ℕ) (x : ℕ) (xs : List ℕ) → stands_in x xs ≡ true → stands_in (f x) (map f xs) ≡ true
stands_map f x [] s = absurd (never_both false s refl)
stands_map f x (y ∷ ys) s = elim (or_cases (eqb x y) (stands_in x ys) s) [
  | inl a ↦ or_left (eqb (f x) (f y)) (stands_in (f x) (map f ys)) (eq-eqb (f x) (f y) (ap f (eqb-true x y a)))
  | inr b ↦ or_right (eqb (f x) (f y)) (stands_in (f x) (map f ys)) (stands_map f x ys b)
]

pub absent_flip : (c : Primitives) (plan : ℕ → ℕ) (t x : ℕ) → is_present c plan t x ≡ false → is_present c plan t (flip x) ≡ false
absent_flip c plan t x n = elim (cases_Bool (is_present c plan t (flip x))) [
  | inl h ↦ absurd (never_both (is_present c plan t x) (ap (is_present c plan t) (sym (flip-flip x)) ∙ present_flip c plan t (flip x) h) n)
  | inr f ↦ f
]

-- a dart that isn't present in the tile is of one of the absent edges
pub absent_passed : (c : Primitives) (plan : ℕ → ℕ) (t x : ℕ) → (untiled_links c).has x ≡ true → is_present c plan t x ≡ false
    → is_of_any flip (absent_darts c plan t) x ≡ true
absent_passed c plan t x hx n = (
    let i : IsThere (untiled c) x = has-there (untiled c) x hx in
    let z : tile_in x ≡ 0 = (in_zero c x hx).tile in
    let le : edge_in x ≤ length c.edges = subst (λ s. edge_in x ≤ edge_count (untiled c) s) z i.to_count in
    let e : ℕ = code 0 (edge_in x) 0 in
    let there : stands_in e (edge_darts c) ≡ true =
    stands_map (λ k. code 0 k 0) (edge_in x) (up_to (length c.edges)) (up_stands (length c.edges) (edge_in x) i.from_one le) in
    let p : ℕ → Bool = λ d. not (is_present c plan t d) in
    let of : (p e ≡ true) × (is_of flip e x ≡ true) = elim (plus_or x (dart_is c x hx)) [
      | inl s ↦ (ap p s ∙ ap not n, or_left (eqb x e) (eqb x (flip e)) (eq-eqb x e (sym s)))
      | inr s ↦ (ap p s ∙ ap not (absent_flip c plan t x n), or_right (eqb x e) (eqb x (flip e)) (eq-eqb x (flip e) (sym (flip-flip x) ∙ ap flip (sym s))))
    ] in
    of_any_from flip e x (absent_darts c plan t) (stands_filter p e (edge_darts c) of.0 there) of.1)

pub stays_present : (c : Primitives) (plan : ℕ → ℕ) (t x : ℕ) → (untiled_links c).has x ≡ true → is_of_any flip (absent_darts c plan t) x ≡ false
    → is_present c plan t x ≡ true
stays_present c plan t x hx h = elim (cases_Bool (is_present c plan t x)) [
  | inl p ↦ p
  | inr n ↦ absurd (never_both (is_of_any flip (absent_darts c plan t) x) (absent_passed c plan t x hx n) h)
]

pub passed_absent : (c : Primitives) (plan : ℕ → ℕ) (t x : ℕ) → is_of_any flip (absent_darts c plan t) x ≡ true → is_present c plan t x ≡ false
passed_absent c plan t x h = elim (cases_Bool (is_present c plan t x)) [
  | inl p ↦ absurd (never_both (is_of_any flip (absent_darts c plan t) x) h (present_stays c plan t x p))
  | inr n ↦ n
]

-- the number of a face in a tile, 1 where it isn't of the tile
abbrev pub face_id : Primitives → (ℕ → ℕ) → ℕ → ℕ → ℕ
face_id c plan t f = (link_of (tiled_face c plan t f)).id

pub id_within : (c : Primitives) (plan : ℕ → ℕ) (t f : ℕ) → f ≢ 1 → plan f ≡ t → face_id c plan t f ≡ local_face c plan t f
id_within c plan t f ne p = rw (ne_eqb f 1 ne, eq-eqb (plan f) t p) refl

pub id_universe : (c : Primitives) (plan : ℕ → ℕ) (t f : ℕ) → f ≡ 1 → face_id c plan t f ≡ 1
id_universe c plan t f e = rw (eq-eqb f 1 e) refl

pub id_away : (c : Primitives) (plan : ℕ → ℕ) (t f : ℕ) → f ≢ 1 → plan f ≢ t → face_id c plan t f ≡ 1
id_away c plan t f ne np = rw (ne_eqb f 1 ne, ne_eqb (plan f) t np) refl

-- a dart without a face of the tile has local face 1
pub id_not : (c : Primitives) (plan : ℕ → ℕ) → IsWellFormed c → (t d : ℕ) → (untiled_links c).has d ≡ true → is_within c plan t d ≡ false
    → face_id c plan t (face_of c d) ≡ 1
id_not c plan w t d hd n = elim (cases_eq (face_of c d) 1) [
  | inl e ↦ id_universe c plan t (face_of c d) e
  | inr ne ↦ (elim (cases_eq (plan (face_of c d)) t) [
    | inl p ↦ absurd (never_both (is_within c plan t d) (within_from c plan w t d hd ne p) n)
    | inr np ↦ id_away c plan t (face_of c d) ne np
  ])
]

-- a face of the tile has its number alone
pub id_apart : (c : Primitives) (plan : ℕ → ℕ) (t f g : ℕ) → InFaces c f → InFaces c g → f ≢ 1 → plan f ≡ t → face_id c plan t f ≡ face_id c plan t g → f ≡ g
id_apart c plan t f g jf jg ne p same = (
    let is : face_id c plan t f ≡ local_face c plan t f = id_within c plan t f ne p in
    elim (cases_eq g 1) [
      | inl e ↦ absurd (above _ (sym is ∙ same ∙ id_universe c plan t g e))
      | inr ng ↦ (elim (cases_eq (plan g) t) [
        | inl q ↦ rank_apart _ f g (holds_from c plan t f jf ne p) (holds_from c plan t g jg ng q) (same_plus _ _ 2 (sym is ∙ same ∙ id_within c plan t g ng q))
        | inr nq ↦ absurd (above _ (sym is ∙ same ∙ id_away c plan t g ng nq))
      ])
    ])

-- the two sides of a present edge have two local faces, if they have two faces
pub sides_apart : (c : Primitives) (plan : ℕ → ℕ) → IsWellFormed c → (t y : ℕ) → is_present c plan t y ≡ true
    → face_id c plan t (face_of c (flip y)) ≡ face_id c plan t (face_of c y) → face_of c y ≡ face_of c (flip y)
sides_apart c plan w t y h same = (
    let hy : (untiled_links c).has y ≡ true = present_has c plan t y h in
    let jy : InFaces c (face_of c y) = in_faces c w y hy in
    let jf : InFaces c (face_of c (flip y)) = in_faces c w (flip y) (flip-has (untiled c) y hy) in
    elim (or_cases (is_within c plan t y) (is_within c plan t (flip y)) h) [
      | inl a ↦ (let p : Within c plan t y = within_is c plan t y a in id_apart c plan t (face_of c y) (face_of c (flip y)) jy jf p.other p.planned (sym same))
      | inr b ↦
          (let p : Within c plan t (flip y) = within_is c plan t (flip y) b in
          sym (id_apart c plan t (face_of c (flip y)) (face_of c y) jf jy p.other p.planned same))
    ])

-- a dart where a walk round a node comes to: it is present, and has the tail and the local face that the walk began with
pub record Arrives (c : Primitives) (plan : ℕ → ℕ) (t node face y : ℕ) : Type 0 where
  pub here : is_present c plan t y ≡ true
  pub tail : tail_of c y ≡ node
  pub side : face_id c plan t (face_of c y) ≡ face

pub neither : (c : Primitives) (plan : ℕ → ℕ) (t x : ℕ) → is_present c plan t x ≡ false → (is_within c plan t x ≡ false) × (is_within c plan t (flip x) ≡ false)
neither c plan t x n = (
  elim (cases_Bool (is_within c plan t x)) [
    | inl a ↦
        absurd (never_both (is_present c plan t x) (or_left (is_within c plan t x) (is_within c plan t (flip x)) a) n)
    | inr f ↦ f
  ],
  elim (cases_Bool (is_within c plan t (flip x))) [
    | inl a ↦
        absurd (never_both (is_present c plan t x) (or_right (is_within c plan t x) (is_within c plan t (flip x)) a) n)
    | inr f ↦ f
  ],
)

pub arrives : (c : Primitives) (plan : ℕ → ℕ) → IsWellFormed c → (t node face : ℕ) → (k x y : ℕ) → (untiled_links c).has x ≡ true → tail_of c x ≡ node
    → face_id c plan t (face_of c x) ≡ face → ComesRoundTo (coverage_map c) (is_of_any flip (absent_darts c plan t)) k x y → Arrives c plan t node face y
arrives c plan w t node face zero x y hx tx fx m =
    subst (Arrives c plan t node face) m.1 (record { here = stays_present c plan t x hx m.0; tail = tx; side = fx })
arrives c plan w t node face (suc k) x y hx tx fx m = (
    let n : is_present c plan t x ≡ false = passed_absent c plan t x m.0 in
    let two : (is_within c plan t x ≡ false) × (is_within c plan t (flip x) ≡ false) = neither c plan t x n in
    let hf : (untiled_links c).has (flip x) ≡ true = flip-has (untiled c) x hx in
    let f1 : face ≡ 1 = sym fx ∙ id_not c plan w t x hx two.0 in
    arrives c plan w t node face k (next_of c (flip x)) y (source_next c w (flip x) hf).has
    (tail_next c w (flip x) hf ∙ ap (tail_of c) (flip-flip x) ∙ tx)
    (ap (face_id c plan t) (face_next c w (flip x) hf) ∙ id_not c plan w t (flip x) hf two.1 ∙ sym f1) m.1)

-- the next of a dart in the map of the tile is present, with the dart's head for its tail and the dart's local face
pub tile_arrives : MapLaws → (c : Primitives) (plan : ℕ → ℕ) (tiles : ℕ) → IsTileable c plan tiles → (t d : ℕ) → is_present c plan t d ≡ true
    → Arrives c plan t (head_of c d) (face_id c plan t (face_of c d)) ((tile_map c plan t).next d)
tile_arrives law c plan tiles w t d h = (
    let hd : (untiled_links c).has d ≡ true = present_has c plan t d h in
    let r = next_is_first law c plan tiles w t d h in
    arrives c plan w.well_formed t (head_of c d) (face_id c plan t (face_of c d)) r.0 (next_of c d) ((tile_map c plan t).next d)
    (source_next c w.well_formed d hd).has (tail_next c w.well_formed d hd) (ap (face_id c plan t) (face_next c w.well_formed d hd)) r.1)

pub next_this : (c : Primitives) (plan : ℕ → ℕ) (tiles : ℕ) → IsTileable c plan tiles → (t y node face : ℕ) → is_present c plan t y ≡ true
    → local_node c plan t (tail_of c y) ≡ node → face_id c plan t (face_of c y) ≡ face
    → is_next (library_links c plan tiles) node face (copy_in c plan t y) ≡ true
next_this c plan tiles w t y node face h en ef = (
    let C : DartLinks = library_links c plan tiles in
    let x : ℕ = copy_in c plan t y in
    let q : HasLinks c plan tiles t y = copies_have_links c plan tiles w t y h in
    and_from (C.has x) (eqb (tail_node C x) node && eqb (C.face x).id face) q.has
    (and_from (eqb (tail_node C x) node) (eqb (C.face x).id face) (eq-eqb (tail_node C x) node (tail_at c plan tiles w t y h ∙ en))
    (eq-eqb (C.face x).id face (ap (λ k. k.id) q.face ∙ ef))))

pub next_other : (c : Primitives) (plan : ℕ → ℕ) (tiles : ℕ) → IsTileable c plan tiles → (t y node face : ℕ) → is_present c plan t y ≡ true
    → local_node c plan t (tail_of c y) ≡ node → face_id c plan t (face_of c y) ≡ face
    → is_next (library_links c plan tiles) node face (copy_in c plan t (flip y)) ≡ false
next_other c plan tiles w t y node face h en ef = (
    let C : DartLinks = library_links c plan tiles in
    let x : ℕ = copy_in c plan t (flip y) in
    let hf : is_present c plan t (flip y) ≡ true = present_flip c plan t y h in
    let q : HasLinks c plan tiles t (flip y) = copies_have_links c plan tiles w t (flip y) hf in
    elim (cases_Bool (is_next C node face x)) [
      | inr f ↦ f
      | inl e ↦ (
          let p = (and_parts (C.has x) (eqb (tail_node C x) node && eqb (C.face x).id face) e).1 in
          let r = and_parts (eqb (tail_node C x) node) (eqb (C.face x).id face) p in
          let tails : local_node c plan t (tail_of c y) ≡ local_node c plan t (tail_of c (flip y)) =
          en ∙ sym (eqb-true (tail_node C x) node r.0) ∙ tail_at c plan tiles w t (flip y) hf in
          let faces : face_id c plan t (face_of c (flip y)) ≡ face_id c plan t (face_of c y) =
          sym (ap (λ k. k.id) q.face) ∙ eqb-true (C.face x).id face r.1 ∙ sym ef in
          absurd (w.well_formed.loops y (present_has c plan t y h) (node_apart c plan t y (flip y) h hf tails) (sides_apart c plan w.well_formed t y h faces)))
    ])

pub next_in_tile : (c : Primitives) (plan : ℕ → ℕ) (tiles : ℕ) → IsTileable c plan tiles → (t y node face : ℕ) → is_present c plan t y ≡ true
    → local_node c plan t (tail_of c y) ≡ node → face_id c plan t (face_of c y) ≡ face
    → only (is_next (library_links c plan tiles) node face) (code t (local_edge c plan t (edge_in y)) 0) ≡ Some (copy_in c plan t y)
next_in_tile c plan tiles w t y node face h en ef =
    only_of (is_next (library_links c plan tiles) node face) (copy_in c plan t y) (code t (local_edge c plan t (edge_in y)) 0)
    (next_this c plan tiles w t y node face h en ef) (ap (is_next (library_links c plan tiles) node face) (copy_flip c plan t y)
    ∙ next_other c plan tiles w t y node face h en ef) (plus_of t (local_edge c plan t (edge_in y)) (sign_in y) (sign-below y))

pub tile_next_is_local : MapLaws → TileNextIsLocal
tile_next_is_local law c plan tiles w t d h = (
    let C : DartLinks = library_links c plan tiles in
    let x : ℕ = copy_in c plan t d in
    let y : ℕ = (tile_map c plan t).next d in
    let a : Arrives c plan t (head_of c d) (face_id c plan t (face_of c d)) y = tile_arrives law c plan tiles w t d h in
    let k : CopyAt c plan tiles t d = copy_at c plan tiles w t d h in
    let q : HasLinks c plan tiles t d = copies_have_links c plan tiles w t d h in
    ap (λ z. next_to C z (C.wing x).id (C.node x).id (C.face x).id) k.tile
    ∙ ap (λ z. next_to C t z (C.node x).id (C.face x).id) (ap (λ z. z.id) q.wing ∙ reference_id t _ _ _)
    ∙ ap (λ z. next_to C t (local_edge c plan t (edge_in y)) z (C.face x).id) (ap (λ z. z.id) q.node ∙ reference_id t _ _ _)
    ∙ ap (λ z. next_to C t (local_edge c plan t (edge_in y)) (local_node c plan t (head_of c d)) z) (ap (λ z. z.id) q.face)
    ∙ next_in_tile c plan tiles w t y (local_node c plan t (head_of c d)) (face_id c plan t (face_of c d)) a.here (ap (local_node c plan t) a.tail) a.side)
