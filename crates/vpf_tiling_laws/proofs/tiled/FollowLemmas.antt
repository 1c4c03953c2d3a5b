-- Each copy of a dart is followed by the home copy of the dart's next.
use Rattle.std.proofs.lemmas.List.{map-append}
use Rattle.std.proofs.Common.{◌≡◌, ◌≢◌, ℕ, zero, suc, ◌-◌, ◌^◌, ◌<◌, ◌≤◌, ◌⊎◌, Bool, true, false, not, cond, eqb, ◌&&◌, refl, sym, ap, ◌∙◌, subst, inl, inr, arith, Option, Some, None, List, [], ◌∷◌, length, map}
use Rattle.std.specs.List.{AllByRecursion}
use Rattle.std.specs.Option.{option_eq}
use Rattle.std.specs.Prelude.{filter}
use Rattle.std.proofs.lemmas.Bool.{cases_Bool, cases_eq, and_parts, and_from, or_from, eqb-true, eq-eqb, ne_eqb}
use Rattle.vpf_darts.specs.Darts.{code, tile_in, edge_in, sign_in, flip}
use Rattle.vpf_darts.specs.Inner.Laws.{ComesRoundTo}
use Rattle.vpf_darts.specs.Maps.{DartMap, IsMap, AreEdges, is_of, is_of_any}
use Rattle.vpf_tiling.specs.Ranks.{up_to}
use Rattle.vpf_prims.specs.Primitives.{Primitives, untiled, edge_count}
use Rattle.vpf_wing.specs.Links.{Beyond, Link, DartLinks, links_of, link_of, tail_node, only}
use Rattle.vpf_follow.specs.Following.{is_far_face, is_home, same_beyond, face_beyond, face_name, is_named, follow, follow_links}
use Rattle.vpf_tiling.specs.Presence.{untiled_links, coverage_map, next_of, tail_of, head_of, face_of, edge_darts, home, is_present, local_edge, local_node, local_face, copy_in, absent_darts, tile_map}
use Rattle.vpf_tiling.specs.Tiles.{reference_to, tiled_wing, tiled_node, tiled_face, tiled_library}
use Rattle.vpf_tiling.specs.Plans.{IsTileable}
use Rattle.vpf_tiling_laws.proofs.tiled.Parts.{HasLinks}
use Rattle.vpf_tiling_laws.specs.Inner.Tiled.Laws.{FollowingIsNext, TileNextIsFirstPresent}
use Rattle.vpf_wing.specs.Inner.DartLaws.{never_both, there-has, code-tile, code-edge, flip-flip, flip-has, flip-edge}
use Rattle.vpf_tiling_laws.proofs.tiled.Facts.{MapLaws}
use Rattle.vpf_base.proofs.Lists.{all_joined as all_join}
use Rattle.vpf_tiling_laws.proofs.tiled.CopyLemmas.{CopyAt, copy_at, copies_have_links}
use Rattle.vpf_tiling_laws.proofs.tiled.SideLemmas.{present_home, side, node_apart, whole_name, above, name_is, same_beyond-refl, names_apart, inside, outside, universe}
use Rattle.vpf_tiling.specs.Inner.PresenceLaws.{face_next, in_faces, present_flip, present_has, sign-below, source_next, tail_next}
use Rattle.vpf_tiling.specs.Inner.RankLaws.{up-last}

-- the edges that are absent from a tile have no present dart
pub not_of_any : (q : ℕ → Bool) (x : ℕ) → q x ≡ false → q (flip x) ≡ false → (xs : List ℕ) → is_of_any flip (filter q xs) x ≡ false
not_of_any q x h g [] = refl
not_of_any q x h g (e ∷ xs) = elim (cases_Bool (q e)) [
  | inl t ↦
      rw t (or_from (is_of flip e x) (is_of_any flip (filter q xs) x)
      (or_from (eqb x e) (eqb x (flip e)) (ne_eqb x e (λ s. never_both (q x) (ap q s ∙ t) h))
      (ne_eqb x (flip e) (λ s. never_both (q (flip x)) (ap q (ap flip s ∙ flip-flip e) ∙ t) g))) (not_of_any q x h g xs))
  | inr f ↦ rw f (not_of_any q x h g xs)
]

pub present_stays : (c : Primitives) (plan : ℕ → ℕ) (t x : ℕ) → is_present c plan t x ≡ true → is_of_any flip (absent_darts c plan t) x ≡ false
present_stays c plan t x h = not_of_any (λ d. not (is_present c plan t d)) x (ap not h) (ap not (present_flip c plan t x h)) (edge_darts c)

pub all_up : (P : ℕ → Type 0) (f : ℕ → ℕ) (n : ℕ) → ((e : ℕ) → 1 ≤ e → e ≤ n → P (f e)) → AllByRecursion P (map f (up_to n))
all_up P f zero h = tt
all_up P f (suc n) h =
    subst (AllByRecursion P) (sym (ap (map f) (up-last n) ∙ map-append f (up_to n) (suc n ∷ [])))
    (all_join P (map f (up_to n)) (f (suc n) ∷ []) (all_up P f n (λ e a b. h e a (omega arith))) (h (suc n) (omega arith) (omega arith), tt))

pub all_filter : (P : ℕ → Type 0) (q : ℕ → Bool) (xs : List ℕ) → AllByRecursion P xs → AllByRecursion P (filter q xs)
all_filter P q [] a = tt
all_filter P q (x ∷ xs) a = elim (cases_Bool (q x)) [
  | inl t ↦ rw t (a.0, all_filter P q xs a.1)
  | inr f ↦ rw f (all_filter P q xs a.1)
]

pub plus_has : (c : Primitives) → length c.edges < 2 ^ 24 → (e : ℕ) → 1 ≤ e → e ≤ length c.edges → (untiled_links c).has (code 0 e 0) ≡ true
plus_has c few e a b = (
    let ok : e < 2 ^ 32 = omega arith in
    let t : tile_in (code 0 e 0) ≡ 0 = code-tile 0 e 0 ok (omega arith) in
    let k : edge_in (code 0 e 0) ≡ e = code-edge 0 e 0 ok (omega arith) in
    there-has (untiled c) (code 0 e 0) (record {
      from_one = subst (λ z. 1 ≤ z) (sym k) a;
      to_count = subst (λ s. edge_in (code 0 e 0) ≤ edge_count (untiled c) s) (sym t) (subst (λ z. z ≤ length c.edges) (sym k) b);
      to_last = omega arith;
    }))

pub are_edges : (c : Primitives) (plan : ℕ → ℕ) (t : ℕ) → length c.edges < 2 ^ 24 → AreEdges (coverage_map c) (absent_darts c plan t)
are_edges c plan t few =
    all_filter (λ e. (untiled_links c).has e ≡ true) (λ d. not (is_present c plan t d)) (edge_darts c)
    (all_up (λ e. (untiled_links c).has e ≡ true) (λ e. code 0 e 0) (length c.edges) (plus_has c few))

pub comes_first : (m : DartMap) (passed : ℕ → Bool) (k x y : ℕ) → ComesRoundTo m passed k x y → passed x ≡ false → x ≡ y
comes_first m passed zero x y h p = h.1
comes_first m passed (suc k) x y h p = absurd (never_both (passed x) h.0 p)

-- where the next of a dart is present too, it is the next in the tile
pub tile_next : MapLaws → (c : Primitives) (plan : ℕ → ℕ) (tiles : ℕ) → IsTileable c plan tiles → (t d : ℕ) → is_present c plan t d ≡ true
    → is_present c plan t (next_of c d) ≡ true → (tile_map c plan t).next d ≡ next_of c d
tile_next law c plan tiles w t d h hn = (
    let m : IsMap (coverage_map c) = law.has_map c w.few w.well_formed in
    let r = law.first_kept (coverage_map c) (absent_darts c plan t) d m (are_edges c plan t w.few) (present_stays c plan t d h) in
    sym (comes_first (coverage_map c) (is_of_any flip (absent_darts c plan t)) r.0 (next_of c d) ((tile_map c plan t).next d) r.2
    (present_stays c plan t (next_of c d) hn)))

pub next_is_first : MapLaws → TileNextIsFirstPresent
next_is_first law c plan tiles w t d h = (
    let m : IsMap (coverage_map c) = law.has_map c w.few w.well_formed in
    let r = law.first_kept (coverage_map c) (absent_darts c plan t) d m (are_edges c plan t w.few) (present_stays c plan t d h) in
    (r.0, r.2))

pub flip_code : (t e s r : ℕ) → s < 2 → r ≡ 1 - s → flip (code t e s) ≡ code t e r
unfolding code flip
flip_code t e s r hs hr = omega arith

pub flip_sign : (d : ℕ) → sign_in (flip d) ≡ 1 - sign_in d
unfolding sign_in flip
flip_sign d = omega arith

-- the copy of the other dart is the other dart of the copy
pub copy_flip : (c : Primitives) (plan : ℕ → ℕ) (t d : ℕ) → flip (copy_in c plan t d) ≡ copy_in c plan t (flip d)
copy_flip c plan t d =
    flip_code t (local_edge c plan t (edge_in d)) (sign_in d) (sign_in (flip d)) (sign-below d) (flip_sign d)
    ∙ ap (λ e. code t (local_edge c plan t e) (sign_in (flip d))) (sym (flip-edge d))

pub plus_of : (t k s : ℕ) → s < 2 → (code t k 0 ≡ code t k s) ⊎ (code t k 0 ≡ flip (code t k s))
plus_of t k s h = elim (cases_eq s 0) [
  | inl z ↦ inl (ap (code t k) (sym z))
  | inr o ↦ inr (sym (flip_code t k s 0 h (omega arith)))
]

pub only_of : (p : ℕ → Bool) (x z : ℕ) → p x ≡ true → p (flip x) ≡ false → (z ≡ x) ⊎ (z ≡ flip x) → only p z ≡ Some x
only_of p x z a b h = elim h [
  | inl e ↦ ap (only p) e ∙ rw (a, b) refl
  | inr e ↦ ap (only p) e ∙ (let back : p (flip (flip x)) ≡ true = ap p (flip-flip x) ∙ a in rw (b, back) (ap Some (flip-flip x)))
]

-- what the tiled library says of its darts
abbrev pub library_links : Primitives → (ℕ → ℕ) → ℕ → DartLinks
library_links c plan tiles = links_of (tiled_library c plan tiles)

pub face_name_at : (c : Primitives) (plan : ℕ → ℕ) (tiles : ℕ) → IsTileable c plan tiles → (t d : ℕ) → is_present c plan t d ≡ true
    → face_name (library_links c plan tiles) (copy_in c plan t d) ≡ whole_name c plan (face_of c d)
face_name_at c plan tiles w t d h = (
    let a : CopyAt c plan tiles t d = copy_at c plan tiles w t d h in
    let q : HasLinks c plan tiles t d = copies_have_links c plan tiles w t d h in
    ap (λ z. face_beyond z ((library_links c plan tiles).face (copy_in c plan t d))) a.tile ∙ ap (face_beyond t) q.face ∙ name_is c plan t (face_of c d))

pub reference_id : (t s here there : ℕ) → (link_of (reference_to t s here there)).id ≡ here
reference_id t s here there = elim (cases_eq s t) [ inl e ↦ rw (eq-eqb s t e) refl | inr ne ↦ rw (ne_eqb s t ne) refl ]

pub tail_at : (c : Primitives) (plan : ℕ → ℕ) (tiles : ℕ) → IsTileable c plan tiles → (t d : ℕ) → is_present c plan t d ≡ true
    → tail_node (library_links c plan tiles) (copy_in c plan t d) ≡ local_node c plan t (tail_of c d)
tail_at c plan tiles w t d h = (
    let hf : is_present c plan t (flip d) ≡ true = present_flip c plan t d h in
    let q : HasLinks c plan tiles t (flip d) = copies_have_links c plan tiles w t (flip d) hf in
    ap (λ x. ((library_links c plan tiles).node x).id) (copy_flip c plan t d) ∙ ap (λ k. k.id) q.node ∙ reference_id t _ _ _
    ∙ ap (λ x. local_node c plan t (tail_of c x)) (flip-flip d))

-- whether a face is one of a dart at home
abbrev pub at_home : Link → Bool
at_home f = not (is_far_face f)

pub inside_home : (c : Primitives) (plan : ℕ → ℕ) (t f : ℕ) → f ≢ 1 → plan f ≡ t → at_home (link_of (tiled_face c plan t f)) ≡ true
inside_home c plan t f ne p = rw (ne_eqb f 1 ne, eq-eqb (plan f) t p, ne_eqb (local_face c plan t f) 1 (above _)) refl

pub outside_home : (c : Primitives) (plan : ℕ → ℕ) (t f : ℕ) → f ≢ 1 → plan f ≢ t → at_home (link_of (tiled_face c plan t f)) ≡ false
outside_home c plan t f ne np = rw (ne_eqb f 1 ne, ne_eqb (plan f) t np) refl

pub universe_home : (c : Primitives) (plan : ℕ → ℕ) (t f : ℕ) → f ≡ 1 → at_home (link_of (tiled_face c plan t f)) ≡ true
universe_home c plan t f e = rw (eq-eqb f 1 e) refl

-- a copy is at home exactly in the home of its dart
pub home_at : (c : Primitives) (plan : ℕ → ℕ) (tiles : ℕ) → IsTileable c plan tiles → (t d : ℕ) → is_present c plan t d ≡ true
    → is_home (library_links c plan tiles) (copy_in c plan t d) ≡ eqb t (home c plan d)
home_at c plan tiles w t d h = (
    let q : HasLinks c plan tiles t d = copies_have_links c plan tiles w t d h in
    ap (λ b. b && at_home ((library_links c plan tiles).face (copy_in c plan t d))) q.has
    ∙ ap at_home q.face
    ∙ (elim (side c plan t d h) [
      | inside ne p e ↦ inside_home c plan t (face_of c d) ne p ∙ sym (eq-eqb t (home c plan d) (sym e))
      | outside ne np e ↦ outside_home c plan t (face_of c d) ne np ∙ sym (ne_eqb t (home c plan d) (λ z. np (sym e ∙ sym z)))
      | universe e g ↦ universe_home c plan t (face_of c d) e ∙ sym (eq-eqb t (home c plan d) (sym g))
    ]))

-- the copy of a dart in its home is named by its tail and its face
pub named_this : (c : Primitives) (plan : ℕ → ℕ) (tiles : ℕ) → IsTileable c plan tiles → (t y node : ℕ) (face : Option Beyond) → is_present c plan t y ≡ true
    → t ≡ home c plan y → local_node c plan t (tail_of c y) ≡ node → whole_name c plan (face_of c y) ≡ face
    → is_named (library_links c plan tiles) node face (copy_in c plan t y) ≡ true
named_this c plan tiles w t y node face h at en ef = (
    let C : DartLinks = library_links c plan tiles in
    let x : ℕ = copy_in c plan t y in
    let e : face_name C x ≡ face = face_name_at c plan tiles w t y h ∙ ef in
    and_from (is_home C x) (eqb (tail_node C x) node && option_eq same_beyond (face_name C x) face) (home_at c plan tiles w t y h ∙ eq-eqb t (home c plan y) at)
    (and_from (eqb (tail_node C x) node) (option_eq same_beyond (face_name C x) face) (eq-eqb (tail_node C x) node (tail_at c plan tiles w t y h ∙ en))
    (subst (λ z. option_eq same_beyond (face_name C x) z ≡ true) e (same_beyond-refl (face_name C x)))))

-- and that of the other dart isn't
pub named_other : (c : Primitives) (plan : ℕ → ℕ) (tiles : ℕ) → IsTileable c plan tiles → (t y node : ℕ) (face : Option Beyond) → is_present c plan t y ≡ true
    → local_node c plan t (tail_of c y) ≡ node → whole_name c plan (face_of c y) ≡ face
    → is_named (library_links c plan tiles) node face (copy_in c plan t (flip y)) ≡ false
named_other c plan tiles w t y node face h en ef = (
    let C : DartLinks = library_links c plan tiles in
    let x : ℕ = copy_in c plan t (flip y) in
    let hy : (untiled_links c).has y ≡ true = present_has c plan t y h in
    let hf : is_present c plan t (flip y) ≡ true = present_flip c plan t y h in
    elim (cases_Bool (is_named C node face x)) [
      | inr f ↦ f
      | inl e ↦ (
          let p = (and_parts (is_home C x) (eqb (tail_node C x) node && option_eq same_beyond (face_name C x) face) e).1 in
          let q = and_parts (eqb (tail_node C x) node) (option_eq same_beyond (face_name C x) face) p in
          let tails : local_node c plan t (tail_of c y) ≡ local_node c plan t (tail_of c (flip y)) =
          en ∙ sym (eqb-true (tail_node C x) node q.0) ∙ tail_at c plan tiles w t (flip y) hf in
          let r : option_eq same_beyond (whole_name c plan (face_of c (flip y))) (whole_name c plan (face_of c y)) ≡ true =
          subst (λ z. option_eq same_beyond z (whole_name c plan (face_of c y)) ≡ true) (face_name_at c plan tiles w t (flip y) hf)
          (subst (λ z. option_eq same_beyond (face_name C x) z ≡ true) (sym ef) q.1) in
          let faces : face_of c (flip y) ≡ face_of c y =
          names_apart c plan (face_of c (flip y)) (face_of c y) (in_faces c w.well_formed (flip y) (flip-has (untiled c) y hy))
          (in_faces c w.well_formed y hy) r in
          absurd (w.well_formed.loops y hy (node_apart c plan t y (flip y) h hf tails) (sym faces)))
    ])

pub named_in_home : (c : Primitives) (plan : ℕ → ℕ) (tiles : ℕ) → IsTileable c plan tiles → (t y node : ℕ) (face : Option Beyond) → is_present c plan t y ≡ true
    → t ≡ home c plan y → local_node c plan t (tail_of c y) ≡ node → whole_name c plan (face_of c y) ≡ face
    → only (is_named (library_links c plan tiles) node face) (code t (local_edge c plan t (edge_in y)) 0) ≡ Some (copy_in c plan t y)
named_in_home c plan tiles w t y node face h at en ef =
    only_of (is_named (library_links c plan tiles) node face) (copy_in c plan t y) (code t (local_edge c plan t (edge_in y)) 0)
    (named_this c plan tiles w t y node face h at en ef) (ap (is_named (library_links c plan tiles) node face) (copy_flip c plan t y)
    ∙ named_other c plan tiles w t y node face h en ef) (plus_of t (local_edge c plan t (edge_in y)) (sign_in y) (sign-below y))

pub link_here : (t s here there : ℕ) → s ≡ t → link_of (reference_to t s here there) ≡ record { id = here; out = None }
link_here t s here there e = rw (eq-eqb s t e) refl

pub link_there : (t s here there : ℕ) → s ≢ t → link_of (reference_to t s here there) ≡ record { id = here; out = Some (record { tile = s; id = there }) }
link_there t s here there ne = rw (ne_eqb s t ne) refl

pub follow_as : (C : DartLinks) (x t : ℕ) (w v w' v' : Link) (f : Option Beyond) → tile_in x ≡ t → C.wing x ≡ w → w ≡ w' → C.node x ≡ v → v ≡ v'
    → face_name C x ≡ f → follow C x ≡ follow_links C t w' v' f
unfolding follow
follow_as C x t w v w' v' f et ew ew' ev ev' ef =
    ap (λ z. follow_links C z (C.wing x) (C.node x) (face_name C x)) et
    ∙ ap (λ z. follow_links C t z (C.node x) (face_name C x)) (ew ∙ ew')
    ∙ ap (λ z. follow_links C t w' z (face_name C x)) (ev ∙ ev')
    ∙ ap (λ z. follow_links C t w' v' z) ef

-- an external part that names one tile twice is followed there
pub follow_there : (C : DartLinks) (t a b i m n : ℕ) (f : Option Beyond)
    → follow_links C t (record { id = a; out = Some (record { tile = i; id = m }) }) (record { id = b; out = Some (record { tile = i; id = n }) }) f
    ≡ only (is_named C n f) (code i m 0)
follow_there C t a b i m n f = ap (λ z. cond z (only (is_named C n f) (code i m 0)) None) (eq-eqb i i refl)

pub following_is_next : MapLaws → FollowingIsNext
following_is_next law c plan tiles w t d h = (
    let C : DartLinks = library_links c plan tiles in
    let y : ℕ = next_of c d in
    let i : ℕ = home c plan y in
    let hd : (untiled_links c).has d ≡ true = present_has c plan t d h in
    let hy : (untiled_links c).has y ≡ true = (source_next c w.well_formed d hd).has in
    let hi : is_present c plan i y ≡ true = present_home c plan tiles w y hy in
    let faces : whole_name c plan (face_of c y) ≡ whole_name c plan (face_of c d) = ap (whole_name c plan) (face_next c w.well_formed d hd) in
    let tails : tail_of c y ≡ head_of c d = tail_next c w.well_formed d hd in
    let a : CopyAt c plan tiles t d = copy_at c plan tiles w t d h in
    let q : HasLinks c plan tiles t d = copies_have_links c plan tiles w t d h in
    let near : ℕ = local_edge c plan t (edge_in ((tile_map c plan t).next d)) in
    let far : ℕ = local_edge c plan i (edge_in y) in
    let here : ℕ = local_node c plan t (head_of c d) in
    let there : ℕ = local_node c plan i (head_of c d) in
    let f : Option Beyond = whole_name c plan (face_of c d) in
    elim (cases_eq i t) [
      | inl e ↦ (
          let ht : is_present c plan t y ≡ true = subst (λ z. is_present c plan z y ≡ true) e hi in
          let is : (tile_map c plan t).next d ≡ y = tile_next law c plan tiles w t d h ht in
          follow_as C (copy_in c plan t d) t (link_of (tiled_wing c plan t d)) (link_of (tiled_node c plan t d))
          (record { id = local_edge c plan t (edge_in y); out = None }) (record { id = here; out = None }) f
          a.tile q.wing (link_here t i near far e ∙ ap (λ z. record { id = local_edge c plan t (edge_in z); out = None }) is) q.node
          (link_here t i here there e) (face_name_at c plan tiles w t d h)
          ∙ named_in_home c plan tiles w t y here f ht (sym e) (ap (local_node c plan t) tails) faces
          ∙ ap (λ z. Some (copy_in c plan z y)) (sym e))
      | inr ne ↦ (
          follow_as C (copy_in c plan t d) t (link_of (tiled_wing c plan t d)) (link_of (tiled_node c plan t d))
          (record { id = near; out = Some (record { tile = i; id = far }) }) (record { id = here; out = Some (record { tile = i; id = there }) }) f
          a.tile q.wing (link_there t i near far ne) q.node (link_there t i here there ne) (face_name_at c plan tiles w t d h)
          ∙ follow_there C t near here i far there f
          ∙ named_in_home c plan tiles w i y there f hi refl (ap (local_node c plan i) tails) faces)
    ])
