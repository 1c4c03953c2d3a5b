-- The tiles of a tiled library agree with each other, dart by dart.
use Rattle.std.proofs.Common.{◌≡◌, ◌≢◌, ℕ, zero, suc, true, false, not, eqb, refl, sym, ap, ◌∙◌, subst, inl, inr, Some, None}
use Rattle.std.proofs.lemmas.Bool.{cases_Bool, cases_eq, and_parts, or_cases, eqb-true, eq-eqb, ne_eqb}
use Rattle.vpf_darts.specs.Darts.{code, tile_in, edge_in, sign_in, flip}
use Rattle.vpf_darts.specs.Inner.Laws.{ComesRoundTo, RemovalLeavesAMap}
use Rattle.vpf_darts.specs.Maps.{IsMap, is_of_any}
use Rattle.vpf_prims.specs.Primitives.{Primitives, untiled}
use Rattle.vpf_wing.specs.Links.{DartLinks, link_of, tail_node, local_next}
use Rattle.vpf_follow.specs.Following.{is_far_face, is_inside, is_home, is_outside, follow, home_copy, beyond_tile}
use Rattle.vpf_tiling.specs.Presence.{untiled_links, coverage_map, next_of, tail_of, face_of, home, is_within, is_present, has_edge, local_edge, local_node, copy_in, dart_name, absent_darts, tile_map}
use Rattle.vpf_tiling.specs.Tiles.{tiled_face, reference_to}
use Rattle.vpf_tiling_laws.specs.Tiled.Names.{dart_behind}
use Rattle.vpf_wing.specs.WellFormed.{IsWellFormed, IsDartOf}
use Rattle.vpf_trace.specs.Agreeing.{IsCopy, IsFirstCopy, GoesOnHere}
use Rattle.vpf_tiling.specs.Plans.{IsTileable}
use Rattle.vpf_tiling_laws.proofs.tiled.Parts.{HasLinks, OfTiled, TiledLoops, OneInside, InsidePlain, OutsidePart, SamePart, Follows, FollowApart, HomeFlip, HomeSign, HomeMark, HomeCarried, GoesOn, HasNexts, NextsApart}
use Rattle.vpf_wing.specs.Inner.DartLaws.{never_both, same_some, flip-has}
use Rattle.vpf_tiling_laws.proofs.tiled.Facts.{MapLaws}
use Rattle.vpf_follow.specs.Inner.FollowLaws.{home_has, outside_has}
use Rattle.vpf_tiling_laws.proofs.tiled.CopyLemmas.{CopyAt, copy_at, copies_have_links}
use Rattle.vpf_tiling_laws.proofs.tiled.SideLemmas.{Within, within_is, home_plain, present_home, side, inside, outside, universe, node_apart, above, rank_apart, same_plus}
use Rattle.vpf_tiling_laws.proofs.tiled.FollowLemmas.{copy_flip, library_links, tail_at, at_home, inside_home, universe_home, home_at, link_here, link_there, following_is_next, are_edges, next_is_first}
use Rattle.vpf_tiling_laws.proofs.tiled.NameLemmas.{IsCopyOf, library_copy, name_apart, home_is_name}
use Rattle.vpf_tiling_laws.proofs.tiled.NextLemmas.{passed_absent, stays_present, face_id, id_within, id_not, sides_apart, tile_arrives, tile_next_is_local}
use Rattle.vpf_tiling.specs.Inner.PresenceLaws.{dart_is, edge_present, face_next, present_flip, present_has, source_next}

-- what is so of each copy of a present dart is so of each dart of the library
pub at_each : (P : ℕ → Type 0) (c : Primitives) (plan : ℕ → ℕ) (tiles : ℕ) → IsTileable c plan tiles
    → ((t d : ℕ) → is_present c plan t d ≡ true → P (copy_in c plan t d)) → (x : ℕ) → (library_links c plan tiles).has x ≡ true → P x
at_each P c plan tiles w f x h =
    (let k : IsCopyOf c plan x = library_copy c plan tiles w x h in subst P k.copy (f (tile_in x) (dart_behind c plan x) k.present))

-- a copy is inside its tile where its dart has a face of the tile
pub inside_at : (c : Primitives) (plan : ℕ → ℕ) (tiles : ℕ) → IsTileable c plan tiles → (t d : ℕ) → is_present c plan t d ≡ true
    → is_inside (library_links c plan tiles) (copy_in c plan t d) ≡ is_within c plan t d
inside_at c plan tiles w t d h = (
    let q : HasLinks c plan tiles t d = copies_have_links c plan tiles w t d h in
    ap (λ k. not (eqb k.id 1)) q.face ∙ (elim (cases_Bool (is_within c plan t d)) [
      | inl i ↦
          (let p : Within c plan t d = within_is c plan t d i in ap (λ z. not (eqb z 1)) (id_within c plan t (face_of c d) p.other p.planned)
          ∙ ap not (ne_eqb _ 1 (above _)) ∙ sym i)
      | inr n ↦ ap (λ z. not (eqb z 1)) (id_not c plan w.well_formed t d (present_has c plan t d h) n) ∙ sym n
    ]))

pub other_within : (c : Primitives) (plan : ℕ → ℕ) (t d : ℕ) → is_present c plan t d ≡ true → is_within c plan t d ≡ false → is_within c plan t (flip d) ≡ true
other_within c plan t d h n =
    elim (or_cases (is_within c plan t d) (is_within c plan t (flip d)) h) [ inl a ↦ absurd (never_both (is_within c plan t d) a n) | inr b ↦ b ]

pub one_inside : OfTiled OneInside
one_inside c plan tiles w =
    at_each (λ x. is_inside (library_links c plan tiles) x ≡ false → is_inside (library_links c plan tiles) (flip x) ≡ true) c plan tiles w (λ t d h n. (
    let i : is_within c plan t d ≡ false = sym (inside_at c plan tiles w t d h) ∙ n in
    ap (is_inside (library_links c plan tiles)) (copy_flip c plan t d) ∙ inside_at c plan tiles w t (flip d) (present_flip c plan t d h)
    ∙ other_within c plan t d h i))

-- the home of the next of a dart that has a face other than the universe
pub next_home : (c : Primitives) (plan : ℕ → ℕ) → IsWellFormed c → (d : ℕ) → (untiled_links c).has d ≡ true → face_of c d ≢ 1
    → home c plan (next_of c d) ≡ plan (face_of c d)
next_home c plan w d hd ne = home_plain c plan (next_of c d) (λ e. ne (sym (face_next c w d hd) ∙ e)) ∙ ap plan (face_next c w d hd)

pub inside_plain : OfTiled InsidePlain
inside_plain c plan tiles w =
    at_each (λ x. is_inside (library_links c plan tiles) x ≡ true → ((library_links c plan tiles).wing x).out ≡ None) c plan tiles w (λ t d h i. (
    let p : Within c plan t d = within_is c plan t d (sym (inside_at c plan tiles w t d h) ∙ i) in
    let q : HasLinks c plan tiles t d = copies_have_links c plan tiles w t d h in
    let e : home c plan (next_of c d) ≡ t = next_home c plan w.well_formed d (present_has c plan t d h) p.other ∙ p.planned in
    ap (λ k. k.out) q.wing ∙ ap (λ k. k.out) (link_here t _ _ _ e)))

-- the dart of an outside copy has a face of another tile
pub record Away (c : Primitives) (plan : ℕ → ℕ) (t d : ℕ) : Type 0 where
  pub other : face_of c d ≢ 1
  pub elsewhere : plan (face_of c d) ≢ t
  pub within : is_within c plan t d ≡ false

pub outside_at : (c : Primitives) (plan : ℕ → ℕ) (tiles : ℕ) → IsTileable c plan tiles → (t d : ℕ) → is_present c plan t d ≡ true
    → is_outside (library_links c plan tiles) (copy_in c plan t d) ≡ true → Away c plan t d
outside_at c plan tiles w t d h o = (
    let C : DartLinks = library_links c plan tiles in
    let x : ℕ = copy_in c plan t d in
    let q : HasLinks c plan tiles t d = copies_have_links c plan tiles w t d h in
    let no : at_home (link_of (tiled_face c plan t (face_of c d))) ≡ false =
    sym (ap at_home q.face) ∙ ap not (and_parts (C.has x) (is_far_face (C.face x)) o).1 in
    elim (side c plan t d h) [
      | inside ne p e ↦ absurd (never_both _ (inside_home c plan t (face_of c d) ne p) no)
      | outside ne np e ↦
          record {
            other = ne;
            elsewhere = np;
            within =
                elim (cases_Bool (is_within c plan t d)) [ inl i ↦ absurd (np (within_is c plan t d i).planned) | inr n ↦ n ];
          }
      | universe e g ↦ absurd (never_both _ (universe_home c plan t (face_of c d) e) no)
    ])

-- what is so of each outside copy is so of each outside dart
pub at_outside : (P : ℕ → Type 0) (c : Primitives) (plan : ℕ → ℕ) (tiles : ℕ) → IsTileable c plan tiles
    → ((t d : ℕ) → is_present c plan t d ≡ true → Away c plan t d → P (copy_in c plan t d)) → (x : ℕ) → is_outside (library_links c plan tiles) x ≡ true → P x
at_outside P c plan tiles w f x o =
    at_each (λ z. is_outside (library_links c plan tiles) z ≡ true → P z) c plan tiles w (λ t d h i. f t d h (outside_at c plan tiles w t d h i)) x
    (outside_has (library_links c plan tiles) x o) o

pub face_part : (c : Primitives) (plan : ℕ → ℕ) (t f : ℕ) → f ≢ 1 → plan f ≢ t → beyond_tile (link_of (tiled_face c plan t f)).out ≡ Some (plan f)
face_part c plan t f ne np = rw (ne_eqb f 1 ne, ne_eqb (plan f) t np) refl

pub outside_part : OfTiled OutsidePart
outside_part c plan tiles w =
    at_outside (λ x. beyond_tile ((library_links c plan tiles).wing x).out ≡ beyond_tile ((library_links c plan tiles).face x).out) c plan tiles w (λ t d h a. (
    let q : HasLinks c plan tiles t d = copies_have_links c plan tiles w t d h in
    let e : home c plan (next_of c d) ≡ plan (face_of c d) = next_home c plan w.well_formed d (present_has c plan t d h) a.other in
    ap (λ k. beyond_tile k.out) q.wing ∙ ap (λ k. beyond_tile k.out) (link_there t _ _ _ (λ z. a.elsewhere (sym e ∙ z))) ∙ ap Some e
    ∙ sym (ap (λ k. beyond_tile k.out) q.face ∙ face_part c plan t (face_of c d) a.other a.elsewhere)))

pub parts_alike : (t s a b m n : ℕ) → beyond_tile (link_of (reference_to t s a b)).out ≡ beyond_tile (link_of (reference_to t s m n)).out
parts_alike t s a b m n = elim (cases_eq s t) [ inl e ↦ rw (eq-eqb s t e) refl | inr ne ↦ rw (ne_eqb s t ne) refl ]

pub same_part : OfTiled SamePart
same_part c plan tiles w =
    at_each (λ x. beyond_tile ((library_links c plan tiles).node x).out ≡ beyond_tile ((library_links c plan tiles).wing x).out) c plan tiles w (λ t d h. (
    let q : HasLinks c plan tiles t d = copies_have_links c plan tiles w t d h in
    ap (λ k. beyond_tile k.out) q.node ∙ parts_alike t (home c plan (next_of c d)) _ _ _ _ ∙ sym (ap (λ k. beyond_tile k.out) q.wing)))

pub follows : MapLaws → OfTiled Follows
follows law c plan tiles w =
    at_each (λ x. (e : ℕ) × (follow (library_links c plan tiles) x ≡ Some e)) c plan tiles w
    (λ t d h. (dart_name c plan (next_of c d), following_is_next law c plan tiles w t d h))

-- a home dart is the name of its dart
pub record IsNameOf (c : Primitives) (plan : ℕ → ℕ) (tiles x : ℕ) : Type 0 where
  pub dart : ℕ
  pub has : (untiled_links c).has dart ≡ true
  pub is : dart_name c plan dart ≡ x
  pub follows : follow (library_links c plan tiles) x ≡ Some (dart_name c plan (next_of c dart))

pub is_name_of : MapLaws → (c : Primitives) (plan : ℕ → ℕ) (tiles : ℕ) → IsTileable c plan tiles → (x : ℕ) → is_home (library_links c plan tiles) x ≡ true
    → IsNameOf c plan tiles x
is_name_of law c plan tiles w x hx = at_each (λ z. is_home (library_links c plan tiles) z ≡ true → IsNameOf c plan tiles z) c plan tiles w (λ t d h i. (
    let at : t ≡ home c plan d = eqb-true t (home c plan d) (sym (home_at c plan tiles w t d h) ∙ i) in
    record { dart = d; has = present_has c plan t d h; is = ap (λ s. copy_in c plan s d) (sym at); follows = following_is_next law c plan tiles w t d h })) x
    (home_has (library_links c plan tiles) x hx) hx

pub follow_apart : MapLaws → OfTiled FollowApart
follow_apart law c plan tiles w x y hx hy e = (
    let a : IsNameOf c plan tiles x = is_name_of law c plan tiles w x hx in
    let b : IsNameOf c plan tiles y = is_name_of law c plan tiles w y hy in
    let names : dart_name c plan (next_of c a.dart) ≡ dart_name c plan (next_of c b.dart) = same_some _ _ (sym a.follows ∙ e ∙ b.follows) in
    let nexts : next_of c a.dart ≡ next_of c b.dart =
    name_apart c plan tiles w (next_of c a.dart) (next_of c b.dart) (source_next c w.well_formed a.dart a.has).has
    (source_next c w.well_formed b.dart b.has).has names in
    let one : a.dart ≡ b.dart = (law.has_map c w.few w.well_formed).next_apart a.dart b.dart nexts in
    sym a.is ∙ ap (dart_name c plan) one ∙ b.is)

pub home_flip : MapLaws → OfTiled HomeFlip
home_flip law c plan tiles w =
    at_outside (λ x. home_copy (library_links c plan tiles) (flip (home_copy (library_links c plan tiles) x)) ≡ flip x) c plan tiles w (λ t d h a. (
    let C : DartLinks = library_links c plan tiles in
    let i : ℕ = home c plan d in
    let pn : is_present c plan i d ≡ true = present_home c plan tiles w d (present_has c plan t d h) in
    let p : Within c plan t (flip d) = within_is c plan t (flip d) (other_within c plan t d h a.within) in
    let here : home c plan (flip d) ≡ t = home_plain c plan (flip d) p.other ∙ p.planned in
    ap (λ z. home_copy C (flip z)) (home_is_name law c plan tiles w t d h)
    ∙ ap (home_copy C) (copy_flip c plan i d)
    ∙ home_is_name law c plan tiles w i (flip d) (present_flip c plan i d pn)
    ∙ ap (λ s. copy_in c plan s (flip d)) here
    ∙ sym (copy_flip c plan t d)))

pub home_sign : MapLaws → OfTiled HomeSign
home_sign law c plan tiles w = at_outside (λ x. sign_in (home_copy (library_links c plan tiles) x) ≡ sign_in x) c plan tiles w (λ t d h a.
    ap sign_in (home_is_name law c plan tiles w t d h)
    ∙ (copy_at c plan tiles w (home c plan d) d (present_home c plan tiles w d (present_has c plan t d h))).sign ∙ sym (copy_at c plan tiles w t d h).sign)

pub home_mark : MapLaws → OfTiled HomeMark
home_mark law c plan tiles w =
    at_outside (λ x. (library_links c plan tiles).mark x ≡ (library_links c plan tiles).mark (home_copy (library_links c plan tiles) x)) c plan tiles w
    (λ t d h a.
    (copies_have_links c plan tiles w t d h).mark
    ∙ sym (copies_have_links c plan tiles w (home c plan d) d (present_home c plan tiles w d (present_has c plan t d h))).mark
    ∙ sym (ap (library_links c plan tiles).mark (home_is_name law c plan tiles w t d h)))

pub home_carried : MapLaws → OfTiled HomeCarried
home_carried law c plan tiles w =
    at_outside (λ x. (library_links c plan tiles).carried x ≡ (library_links c plan tiles).carried (home_copy (library_links c plan tiles) x)) c plan tiles w
    (λ t d h a.
    (copies_have_links c plan tiles w t d h).carried
    ∙ sym (copies_have_links c plan tiles w (home c plan d) d (present_home c plan tiles w d (present_has c plan t d h))).carried
    ∙ sym (ap (library_links c plan tiles).carried (home_is_name law c plan tiles w t d h)))

-- a dart that has a copy in a tile is present there
pub copy_present : MapLaws → (c : Primitives) (plan : ℕ → ℕ) (tiles : ℕ) → IsTileable c plan tiles → (t e z : ℕ) → (untiled_links c).has e ≡ true
    → IsCopy (library_links c plan tiles) t (dart_name c plan e) z → is_present c plan t e ≡ true
copy_present law c plan tiles w t e z he k = (
    let C : DartLinks = library_links c plan tiles in
    let q : IsCopyOf c plan z = library_copy c plan tiles w z k.has in
    let b : ℕ = dart_behind c plan z in
    let a : home_copy C z ≡ dart_name c plan b = ap (home_copy C) (sym q.copy) ∙ home_is_name law c plan tiles w (tile_in z) b q.present in
    let n : home_copy C (dart_name c plan e) ≡ dart_name c plan e = home_is_name law c plan tiles w (home c plan e) e (present_home c plan tiles w e he) in
    let is : b ≡ e = name_apart c plan tiles w b e (present_has c plan (tile_in z) b q.present) he (sym a ∙ k.home ∙ n) in
    ap (λ s. is_present c plan s e) (sym k.tile) ∙ ap (is_present c plan (tile_in z)) (sym is) ∙ q.present)

pub is_copy : MapLaws → (c : Primitives) (plan : ℕ → ℕ) (tiles : ℕ) → IsTileable c plan tiles → (t e : ℕ) → is_present c plan t e ≡ true
    → IsCopy (library_links c plan tiles) t (dart_name c plan e) (copy_in c plan t e)
is_copy law c plan tiles w t e h = (let a : CopyAt c plan tiles t e = copy_at c plan tiles w t e h in record {
  has = a.has;
  tile = a.tile;
  home =
      home_is_name law c plan tiles w t e h
      ∙ sym (home_is_name law c plan tiles w (home c plan e) e (present_home c plan tiles w e (present_has c plan t e h)));
})

-- a walk over absent edges to the first present dart is one to the first that has a copy
pub first_copy : MapLaws → (c : Primitives) (plan : ℕ → ℕ) (tiles : ℕ) → IsTileable c plan tiles → (t k e y : ℕ) → (untiled_links c).has e ≡ true
    → ComesRoundTo (coverage_map c) (is_of_any flip (absent_darts c plan t)) k e y
    → IsFirstCopy (library_links c plan tiles) t k (dart_name c plan e) (copy_in c plan t y)
first_copy law c plan tiles w t zero e y he m =
    subst (λ z. IsCopy (library_links c plan tiles) t (dart_name c plan e) (copy_in c plan t z)) m.1
    (is_copy law c plan tiles w t e (stays_present c plan t e he m.0))
first_copy law c plan tiles w t (suc k) e y he m = (
    let p : is_present c plan t e ≡ false = passed_absent c plan t e m.0 in
    let hf : (untiled_links c).has (flip e) ≡ true = flip-has (untiled c) e he in
    let i : ℕ = home c plan e in
    let h : is_present c plan i e ≡ true = present_home c plan tiles w e he in (
      λ z q. never_both (is_present c plan t e) (copy_present law c plan tiles w t e z he q) p,
      (
        dart_name c plan (next_of c (flip e)),
        ap (follow (library_links c plan tiles)) (copy_flip c plan i e) ∙ following_is_next law c plan tiles w i (flip e) (present_flip c plan i e h),
        first_copy law c plan tiles w t k (next_of c (flip e)) y (source_next c w.well_formed (flip e) hf).has m.1,
      ),
    ))

pub goes_on : MapLaws → OfTiled GoesOn
goes_on law c plan tiles w = at_each (GoesOnHere (library_links c plan tiles)) c plan tiles w (λ t d h. (
    let C : DartLinks = library_links c plan tiles in
    let r = next_is_first law c plan tiles w t d h in
    let hd : (untiled_links c).has d ≡ true = present_has c plan t d h in
    let y : ℕ = (tile_map c plan t).next d in
    record {
      followed = dart_name c plan (next_of c d);
      next = copy_in c plan t y;
      steps = r.0;
      follows = following_is_next law c plan tiles w t d h;
      goes = tile_next_is_local law c plan tiles w t d h;
      first =
          subst (λ s. IsFirstCopy C s r.0 (dart_name c plan (next_of c d)) (copy_in c plan t y)) (sym (copy_at c plan tiles w t d h).tile)
          (first_copy law c plan tiles w t r.0 (next_of c d) y (source_next c w.well_formed d hd).has r.1);
    }))

pub tiled_loops : TiledLoops
tiled_loops c plan tiles w =
    at_each (λ x. tail_node (library_links c plan tiles) x ≡ tail_node (library_links c plan tiles) (flip x)
    → ((library_links c plan tiles).face x).id ≢ ((library_links c plan tiles).face (flip x)).id) c plan tiles w (λ t d h e f. (
    let C : DartLinks = library_links c plan tiles in
    let hf : is_present c plan t (flip d) ≡ true = present_flip c plan t d h in
    let q : HasLinks c plan tiles t d = copies_have_links c plan tiles w t d h in
    let r : HasLinks c plan tiles t (flip d) = copies_have_links c plan tiles w t (flip d) hf in
    let tails : local_node c plan t (tail_of c d) ≡ local_node c plan t (tail_of c (flip d)) =
    sym (tail_at c plan tiles w t d h) ∙ e ∙ ap (tail_node C) (copy_flip c plan t d) ∙ tail_at c plan tiles w t (flip d) hf in
    let faces : face_id c plan t (face_of c (flip d)) ≡ face_id c plan t (face_of c d) =
    sym (ap (λ k. k.id) r.face) ∙ ap (λ z. (C.face z).id) (sym (copy_flip c plan t d)) ∙ sym f ∙ ap (λ k. k.id) q.face in
    w.well_formed.loops d (present_has c plan t d h) (node_apart c plan t d (flip d) h hf tails) (sides_apart c plan w.well_formed t d h faces)))

pub has_nexts : MapLaws → OfTiled HasNexts
has_nexts law c plan tiles w t x h =
    at_each (λ x. (e : ℕ) × (local_next (library_links c plan tiles) x ≡ Some e)) c plan tiles w
    (λ t d h. (copy_in c plan t ((tile_map c plan t).next d), tile_next_is_local law c plan tiles w t d h)) x h.has

-- the map of a tile is a map
pub tile_is_map : MapLaws → RemovalLeavesAMap → (c : Primitives) (plan : ℕ → ℕ) (tiles : ℕ) → IsTileable c plan tiles → (t : ℕ) → IsMap (tile_map c plan t)
tile_is_map law removal c plan tiles w t = removal (coverage_map c) (absent_darts c plan t) (law.has_map c w.few w.well_formed) (are_edges c plan t w.few)

-- two darts of one copy in a tile are one
pub copy_apart : (c : Primitives) (plan : ℕ → ℕ) (tiles : ℕ) → IsTileable c plan tiles → (t d e : ℕ) → is_present c plan t d ≡ true
    → is_present c plan t e ≡ true → copy_in c plan t d ≡ copy_in c plan t e → d ≡ e
copy_apart c plan tiles w t d e hd he same = (
    let a : CopyAt c plan tiles t d = copy_at c plan tiles w t d hd in
    let b : CopyAt c plan tiles t e = copy_at c plan tiles w t e he in
    let k : local_edge c plan t (edge_in d) ≡ local_edge c plan t (edge_in e) = sym a.edge ∙ ap edge_in same ∙ b.edge in
    let edges : edge_in d ≡ edge_in e =
    rank_apart (has_edge c plan t) (edge_in d) (edge_in e) (edge_present c plan t d hd) (edge_present c plan t e he) (same_plus _ _ 1 k) in
    let signs : sign_in d ≡ sign_in e = sym a.sign ∙ ap sign_in same ∙ b.sign in
    sym (dart_is c d (present_has c plan t d hd)) ∙ ap (λ j. code 0 j (sign_in d)) edges ∙ ap (code 0 (edge_in e)) signs
    ∙ dart_is c e (present_has c plan t e he))

-- a dart of a tile is the copy of a present dart there
pub record CopyHere (c : Primitives) (plan : ℕ → ℕ) (t x : ℕ) : Type 0 where
  pub dart : ℕ
  pub present : is_present c plan t dart ≡ true
  pub copy : copy_in c plan t dart ≡ x

pub copy_here : (c : Primitives) (plan : ℕ → ℕ) (tiles : ℕ) → IsTileable c plan tiles → (t x : ℕ) → IsDartOf (library_links c plan tiles) t x
    → CopyHere c plan t x
copy_here c plan tiles w t x h = (let k : IsCopyOf c plan x = library_copy c plan tiles w x h.has in
    subst (λ s. CopyHere c plan s x) h.tile (record { dart = dart_behind c plan x; present = k.present; copy = k.copy }))

pub nexts_apart : MapLaws → RemovalLeavesAMap → OfTiled NextsApart
nexts_apart law removal c plan tiles w t x y hx hy e = (
    let C : DartLinks = library_links c plan tiles in
    let a : CopyHere c plan t x = copy_here c plan tiles w t x hx in
    let b : CopyHere c plan t y = copy_here c plan tiles w t y hy in
    let m : IsMap (tile_map c plan t) = tile_is_map law removal c plan tiles w t in
    let na : local_next C x ≡ Some (copy_in c plan t ((tile_map c plan t).next a.dart)) =
    ap (local_next C) (sym a.copy) ∙ tile_next_is_local law c plan tiles w t a.dart a.present in
    let nb : local_next C y ≡ Some (copy_in c plan t ((tile_map c plan t).next b.dart)) =
    ap (local_next C) (sym b.copy) ∙ tile_next_is_local law c plan tiles w t b.dart b.present in
    let nexts : (tile_map c plan t).next a.dart ≡ (tile_map c plan t).next b.dart =
    copy_apart c plan tiles w t _ _ (tile_arrives law c plan tiles w t a.dart a.present).here (tile_arrives law c plan tiles w t b.dart b.present).here
    (same_some _ _ (sym na ∙ e ∙ nb)) in
    sym a.copy ∙ ap (copy_in c plan t) (m.next_apart a.dart b.dart nexts) ∙ b.copy)
