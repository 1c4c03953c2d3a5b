-- The copies of a dart in a tile: there is at most one, and where it isn't the dart itself it is found by the other dart of the edge.
use Rattle.std.proofs.Common.{◌≡◌, ◌⊎◌, ℕ, ◌^◌, ◌<◌, Bool, true, false, not, eqb, ◌&&◌, Option, Some, None, is_some, nat_eq, List, refl, sym, subst, ap, ◌∙◌, inl, inr}
use Rattle.std.specs.Prelude.{find, if◌then◌else◌}
use Rattle.std.specs.Option.{option_eq, unwrap_or}
use Rattle.std.proofs.lemmas.Bool.{and_parts, and_from, cases_Bool, cases_eq, eqb-true, eq-eqb}
use Rattle.vpf_darts.specs.Darts.{code, tile_in, flip}
use Rattle.vpf_prims.specs.Primitives.{Library, edge_count}
use Rattle.vpf_wing.specs.Links.{Beyond, DartLinks, links_of, only}
use Rattle.vpf_follow.specs.Following.{beyond_tile, is_far_face, is_home, is_outside, is_named, face_name, same_beyond, follow, follow_to, follows_to, first_home, home_copy}
use Rattle.vpf_cross.specs.Inner.Copies.{FacesAreElsewhere}
use Rattle.vpf_cross.specs.RoundLines.{copy_in_tile}
use Rattle.vpf_cross.proofs.DartLists.{Among, find_found, find_missed, darts_are, darts_hold}
use Rattle.vpf_wing.specs.Inner.DartLaws.{flip-flip}

-- the one of two darts that passes
only_at : (p : ℕ → Bool) (d z : ℕ) (a b : Bool) → p d ≡ a → p (flip d) ≡ b
    → (if a then (if b then None else Some d) else (if b then Some (flip d) else None)) ≡ Some z → p z ≡ true
only_at p d z true true x y h = absurd cc
only_at p d z true false x y h = let e : d ≡ z = cc in subst (λ v. p v ≡ true) e x
only_at p d z false true x y h = let e : flip d ≡ z = cc in subst (λ v. p v ≡ true) e y
only_at p d z false false x y h = absurd cc

only_passes : (p : ℕ → Bool) (d z : ℕ) → only p d ≡ Some z → p z ≡ true
only_passes p d z h = only_at p d z (p d) (p (flip d)) refl refl h

-- z is a home dart whose face has this name
record IsHomeAt (C : DartLinks) (face : Option Beyond) (z : ℕ) : Type 0 where
  home : is_home C z ≡ true
  at_face : option_eq same_beyond (face_name C z) face ≡ true

named_at : (C : DartLinks) (node z : ℕ) (face : Option Beyond) → is_named C node face z ≡ true → IsHomeAt C face z
named_at C node z face h =
    let p = and_parts (is_home C z) _ h in
    record { home = p.0; at_face = (and_parts _ (option_eq same_beyond (face_name C z) face) p.1).1 }

one_tile : (C : DartLinks) (w v : Beyond) (face : Option Beyond) (z : ℕ) (b : Bool)
    → (if b then only (is_named C v.id face) (code w.tile w.id 0) else None) ≡ Some z → IsHomeAt C face z
one_tile C w v face z true h = named_at C v.id z face (only_passes (is_named C v.id face) (code w.tile w.id 0) z h)
one_tile C w v face z false h = absurd cc

followed_to : (C : DartLinks) (tile edge node : ℕ) (face wing_out node_out : Option Beyond) (z : ℕ) → follow_to C tile edge node face wing_out node_out ≡ Some z → IsHomeAt C face z
followed_to C tile edge node face None node_out z h = named_at C node z face (only_passes (is_named C node face) (code tile edge 0) z h)
followed_to C tile edge node face (Some w) None z h = absurd cc
followed_to C tile edge node face (Some w) (Some v) z h = one_tile C w v face z (eqb w.tile v.tile) h

-- what follows a dart is a home dart at its face
follows_at : (C : DartLinks) (d z : ℕ) → follow C d ≡ Some z → IsHomeAt C (face_name C d) z
unfolding follow
follows_at C d z h = followed_to C (tile_in d) (C.wing d).id (C.node d).id (face_name C d) (C.wing d).out (C.node d).out z h

-- the name of a face of another tile
record IsFar (C : DartLinks) (d : ℕ) : Type 0 where
  part : Beyond
  out : (C.face d).out ≡ Some part
  name : face_name C d ≡ Some part

far_at : (o : Option Beyond) → is_some o ≡ true → (p : Beyond) × (o ≡ Some p)
far_at None h = absurd cc
far_at (Some p) h = (p, refl)

out_name : (b : Bool) (o own : Option Beyond) (p : Beyond) → b ≡ true → o ≡ Some p → (if b then o else own) ≡ Some p
out_name b o own p t e = rw t e

far : (C : DartLinks) (d : ℕ) → is_outside C d ≡ true → IsFar C d
far C d h =
    let p = and_parts (C.has d) (is_far_face (C.face d)) h in
    let q = and_parts (eqb (C.face d).id 1) (is_some (C.face d).out) p.1 in
    let part = far_at (C.face d).out q.1 in
    record { part = part.0; out = part.1; name = out_name (eqb (C.face d).id 1) (C.face d).out _ part.0 q.0 part.1 }

own_at : (b : Bool) (o : Option Beyond) (t i : ℕ) (p : Beyond) → not (b && is_some o) ≡ true → (if b then o else Some (record { tile = t; id = i })) ≡ Some p → t ≡ p.tile
own_at true None t i p h e = absurd cc
own_at true (Some q) t i p h e = absurd cc
own_at false o t i p h e = let x : Beyond = record { tile = t; id = i } in let s : Some x ≡ Some p = e in ap (λ (v : Beyond). v.tile) (some_is x p s)
  where
    some_is : (x p : Beyond) → Some x ≡ Some p → x ≡ p
    some_is x p s = cc

-- a home dart has a face of its tile, or the universe
own : (C : DartLinks) (d : ℕ) (p : Beyond) → is_home C d ≡ true → face_name C d ≡ Some p → tile_in d ≡ p.tile
own C d p h e =
    let q = and_parts (C.has d) (not (is_far_face (C.face d))) h in
    own_at (eqb (C.face d).id 1) (C.face d).out (tile_in d) (C.face d).id p q.1 e

same_here : (a : Option Beyond) (p : Beyond) → option_eq same_beyond a (Some p) ≡ true → (q : Beyond) × (a ≡ Some q) × (q.tile ≡ p.tile)
same_here None p h = absurd cc
same_here (Some q) p h = (q, refl, eqb-true q.tile p.tile (and_parts (eqb q.tile p.tile) (eqb q.id p.id) h).0)

same_there : (q : Beyond) (b : Option Beyond) → option_eq same_beyond (Some q) b ≡ true → (r : Beyond) × (b ≡ Some r) × (q.tile ≡ r.tile)
same_there q None h = absurd cc
same_there q (Some r) h = (r, refl, eqb-true q.tile r.tile (and_parts (eqb q.tile r.tile) (eqb q.id r.id) h).0)

option_same : (a b : Option ℕ) → option_eq nat_eq a b ≡ true → a ≡ b
option_same None None h = refl
option_same None (Some b) h = absurd cc
option_same (Some a) None h = absurd cc
option_same (Some a) (Some b) h = ap Some (eqb-true a b h)

-- a home dart is its own home copy
pub copy_home : (C : DartLinks) (d : ℕ) → is_home C d ≡ true → home_copy C d ≡ d
unfolding home_copy
copy_home C d h = rw h refl

value_is : (o : Option ℕ) (d y : ℕ) → unwrap_or o d ≡ y → (d ≡ y → ⊥) → o ≡ Some y
value_is None d y e ne = absurd (ne e)
value_is (Some x) d y e ne = ap Some e

-- y is the home copy of another dart x: a home dart that is followed by the same
record IsCopied (C : DartLinks) (x y : ℕ) : Type 0 where
  outside : is_outside C x ≡ true
  home : is_home C y ≡ true
  follow_is : follow C y ≡ follow C x

outside_at : (h f : Bool) → h ≡ true → (h && not f) ≡ false → (h && f) ≡ true
outside_at true true x y = refl
outside_at true false x y = absurd cc
outside_at false f x y = absurd cc

first_copied : (C : DartLinks) (x y : ℕ) → C.has x ≡ true → is_home C x ≡ false → first_home C (follow C x) ≡ Some y → IsCopied C x y
unfolding first_home
first_copied C x y has away some =
    let p = and_parts (is_home C y) (option_eq nat_eq (follow C y) (follow C x)) (find_found (follows_to C (follow C x)) C.darts y some).0 in
    record { outside = outside_at (C.has x) (is_far_face (C.face x)) has away; home = p.0; follow_is = option_same (follow C y) (follow C x) p.1 }

copied_away : (C : DartLinks) (x y : ℕ) → C.has x ≡ true → is_home C x ≡ false → home_copy C x ≡ y → (x ≡ y → ⊥) → IsCopied C x y
unfolding home_copy
copied_away C x y has away e ne =
    let e' : unwrap_or (first_home C (follow C x)) x ≡ y = rw away at e in
    first_copied C x y has away (value_is (first_home C (follow C x)) x y e' ne)

copied : (C : DartLinks) (x y : ℕ) → C.has x ≡ true → home_copy C x ≡ y → (x ≡ y → ⊥) → IsCopied C x y
copied C x y has e ne = elim (cases_Bool (is_home C x)) [
  | inl home ↦ absurd (ne (sym (copy_home C x home) ∙ e))
  | inr away ↦ copied_away C x y has away e ne
]

-- what is so of the darts of a tiled coverage whose home copies agree
pub record HaveCopies (L : Library) : Type 0 where
  pub few : (t : ℕ) → edge_count L t < 2 ^ 24
  pub follows : (d : ℕ) → (links_of L).has d ≡ true → (e : ℕ) × (follow (links_of L) d ≡ Some e)
  pub flips : (d : ℕ) → is_outside (links_of L) d ≡ true → home_copy (links_of L) (flip (home_copy (links_of L) d)) ≡ flip d
  pub elsewhere : FacesAreElsewhere (links_of L)

-- a copy in the tile of the home dart is the home dart
apart_here : (L : Library) (x y : ℕ) → HaveCopies L → (links_of L).has x ≡ true → tile_in x ≡ tile_in y → IsCopied (links_of L) x y → ⊥
apart_here L x y h has tile i =
    let C = links_of L in
    let f = far C x i.outside in
    let z = h.follows x has in
    let at_x = follows_at C x z.0 z.1 in
    let q = same_here (face_name C z.0) f.part (subst (λ (v : Option Beyond). option_eq same_beyond (face_name C z.0) v ≡ true) f.name at_x.at_face) in
    let at_y = follows_at C y z.0 (i.follow_is ∙ z.1) in
    let r = same_there q.0 (face_name C y) (subst (λ (v : Option Beyond). option_eq same_beyond v (face_name C y) ≡ true) q.1 at_y.at_face) in
    let t : f.part.tile ≡ tile_in x = sym q.2 ∙ r.2 ∙ sym (own C y r.0 i.home r.1) ∙ sym tile in
    h.elsewhere x i.outside (ap beyond_tile f.out ∙ ap Some t)

here : (L : Library) (t x y : ℕ) → HaveCopies L → (links_of L).has x ≡ true → tile_in x ≡ t → tile_in y ≡ t → home_copy (links_of L) x ≡ y → x ≡ y
here L t x y h has tile_x tile_y e = elim (cases_eq x y) [
  | inl same ↦ same
  | inr ne ↦ absurd (apart_here L x y h has (tile_x ∙ sym tile_y) (copied (links_of L) x y has e ne))
]

-- a copy in another tile is found by the other dart of the edge
there : (L : Library) (t x y : ℕ) → HaveCopies L → (links_of L).has x ≡ true → tile_in x ≡ t → (tile_in y ≡ t → ⊥) → home_copy (links_of L) x ≡ y
    → x ≡ flip (home_copy (links_of L) (flip y))
there L t x y h has tile_x tile_y e =
    let C = links_of L in
    let ne : x ≡ y → ⊥ = λ same. tile_y (subst (λ v. tile_in v ≡ t) same tile_x) in
    let back : home_copy C (flip (home_copy C x)) ≡ flip x = h.flips x (copied C x y has e ne).outside in
    let back' : home_copy C (flip y) ≡ flip x = subst (λ v. home_copy C (flip v) ≡ flip x) e back in
    sym (flip-flip x) ∙ sym (ap flip back')

some_or_none : (o : Option ℕ) → ((x : ℕ) × (o ≡ Some x)) ⊎ (o ≡ None)
some_or_none None = inr refl
some_or_none (Some x) = inl (x, refl)

-- what alone passes is found
find_alone : (p : ℕ → Bool) (xs : List ℕ) (e : ℕ) → p e ≡ true → Among xs e → ((x : ℕ) → p x ≡ true → Among xs x → x ≡ e) → find p xs ≡ Some e
find_alone p xs e passes among alone = elim (some_or_none (find p xs)) [
  | inl f ↦ (let x = find_found p xs f.0 f.1 in f.1 ∙ ap Some (alone f.0 x.0 x.1))
  | inr none ↦ (let out : p e ≡ false = find_missed p xs none e among in absurd cc)
]

find_nothing : (p : ℕ → Bool) (xs : List ℕ) → ((x : ℕ) → p x ≡ true → Among xs x → ⊥) → find p xs ≡ None
find_nothing p xs nothing = elim (some_or_none (find p xs)) [
  | inl f ↦ (let x = find_found p xs f.0 f.1 in absurd (nothing f.0 x.0 x.1))
  | inr none ↦ none
]

-- a copy of a home dart in a tile
abbrev is_copy : DartLinks → ℕ → ℕ → ℕ → Bool
is_copy C t y e = eqb (tile_in e) t && eqb (home_copy C e) (home_copy C y)

copy_parts : (C : DartLinks) (t y e : ℕ) → is_home C y ≡ true → is_copy C t y e ≡ true → (tile_in e ≡ t) × (home_copy C e ≡ y)
copy_parts C t y e home h =
    let p = and_parts (eqb (tile_in e) t) (eqb (home_copy C e) (home_copy C y)) h in
    (eqb-true (tile_in e) t p.0, eqb-true (home_copy C e) (home_copy C y) p.1 ∙ copy_home C y home)

copy_from : (C : DartLinks) (t y e : ℕ) → is_home C y ≡ true → tile_in e ≡ t → home_copy C e ≡ y → is_copy C t y e ≡ true
copy_from C t y e home tile is =
    and_from (eqb (tile_in e) t) (eqb (home_copy C e) (home_copy C y)) (eq-eqb (tile_in e) t tile) (eq-eqb (home_copy C e) (home_copy C y) (is ∙ sym (copy_home C y home)))

home_has : (C : DartLinks) (y : ℕ) → is_home C y ≡ true → C.has y ≡ true
home_has C y h = (and_parts (C.has y) (not (is_far_face (C.face y))) h).0

pub copy_here : (L : Library) (t y : ℕ) → HaveCopies L → is_home (links_of L) y ≡ true → tile_in y ≡ t → copy_in_tile (links_of L) t y ≡ Some y
unfolding copy_in_tile
copy_here L t y h home tile =
    let C = links_of L in
    find_alone (is_copy C t y) C.darts y (copy_from C t y y home tile (copy_home C y home)) (darts_hold L y (home_has C y home)) (λ x passes among. (
    let p = copy_parts C t y x home passes in here L t x y h (darts_are L h.few x among) p.0 tile p.1))

pub copy_there : (L : Library) (t y e : ℕ) → HaveCopies L → is_home (links_of L) y ≡ true → (tile_in y ≡ t → ⊥) → e ≡ flip (home_copy (links_of L) (flip y))
    → (links_of L).has e ≡ true → tile_in e ≡ t → home_copy (links_of L) e ≡ y → copy_in_tile (links_of L) t y ≡ Some e
unfolding copy_in_tile
copy_there L t y e h home away is has tile copy =
    let C = links_of L in
    find_alone (is_copy C t y) C.darts e (copy_from C t y e home tile copy) (darts_hold L e has) (λ x passes among. (
    let p = copy_parts C t y x home passes in there L t x y h (darts_are L h.few x among) p.0 away p.1 ∙ sym is))

pub copy_absent : (L : Library) (t y e : ℕ) → HaveCopies L → is_home (links_of L) y ≡ true → (tile_in y ≡ t → ⊥) → e ≡ flip (home_copy (links_of L) (flip y))
    → (tile_in e ≡ t → home_copy (links_of L) e ≡ y → ⊥) → copy_in_tile (links_of L) t y ≡ None
unfolding copy_in_tile
copy_absent L t y e h home away is none =
    let C = links_of L in
    find_nothing (is_copy C t y) C.darts (λ x passes among. (
    let p = copy_parts C t y x home passes in
    let same : x ≡ e = there L t x y h (darts_are L h.few x among) p.0 away p.1 ∙ sym is in
    none (subst (λ v. tile_in v ≡ t) same p.0) (subst (λ v. home_copy C v ≡ y) same p.1)))
