-- Laws of what follows darts, and of the next of home darts.
use Rattle.std.proofs.Common.{◌≡◌, ℕ, Bool, true, false, not, cond, eqb, ◌&&◌, refl, sym, ap, ◌∙◌, inl, inr, Option, Some, None}
use Rattle.std.specs.Option.{unwrap_or}
use Rattle.std.proofs.lemmas.Bool.{cases_Bool, and_parts}
use Rattle.vpf_darts.specs.Darts.{code, tile_in}
use Rattle.vpf_wing.specs.Links.{Beyond, DartLinks}
use Rattle.vpf_follow.specs.Following.{is_far_face, is_home, is_outside, is_named, face_name, follow_to, follow, home_copy, library_map}
use Rattle.vpf_follow.specs.Sided.{HasFollowers}
use Rattle.vpf_wing.specs.Inner.DartLaws.{never_both, none_is_some, only-passes}

pub home_has : (C : DartLinks) (d : ℕ) → is_home C d ≡ true → C.has d ≡ true
home_has C d h = (and_parts (C.has d) (not (is_far_face (C.face d))) h).0

-- a dart is a home dart or an outside dart
pub outside_has : (C : DartLinks) (d : ℕ) → is_outside C d ≡ true → C.has d ≡ true
outside_has C d h = (and_parts (C.has d) (is_far_face (C.face d)) h).0

pub away_outside : (C : DartLinks) (x : ℕ) → C.has x ≡ true → is_home C x ≡ false → is_outside C x ≡ true
away_outside C x has away = outside_by (C.has x) (is_far_face (C.face x)) has away
  where
    outside_by : (a b : Bool) → a ≡ true → (a && not b) ≡ false → (a && b) ≡ true
    outside_by true true h e = refl
    outside_by true false h e = absurd (never_both true refl e)
    outside_by false b h e = absurd (never_both false h refl)

named_home : (C : DartLinks) (node : ℕ) (face : Option Beyond) (z y : ℕ) → is_named C node face y ≡ true → is_home C y ≡ true
named_home C node face z y h = (and_parts (is_home C y) _ h).0

follow_to_home : (C : DartLinks) (tile edge node : ℕ) (face w v : Option Beyond) (y : ℕ) → follow_to C tile edge node face w v ≡ Some y → is_home C y ≡ true
follow_to_home C tile edge node face None v y h = named_home C node face (code tile edge 0) y (only-passes (is_named C node face) (code tile edge 0) y h).0
follow_to_home C tile edge node face (Some w) None y h = absurd (none_is_some y h)
follow_to_home C tile edge node face (Some w) (Some v) y h = elim (cases_Bool (eqb w.tile v.tile)) [
  | inl t ↦ (let h' = rw t at h in named_home C v.id face (code w.tile w.id 0) y (only-passes (is_named C v.id face) (code w.tile w.id 0) y h').0)
  | inr f ↦ (let h' = rw f at h in absurd (none_is_some y h'))
]

-- what follows a dart is a home dart
pub follow_home : (C : DartLinks) (x y : ℕ) → follow C x ≡ Some y → is_home C y ≡ true
unfolding follow
follow_home C x y h = follow_to_home C (tile_in x) (C.wing x).id (C.node x).id (face_name C x) (C.wing x).out (C.node x).out y h

pub home_self : (C : DartLinks) (x : ℕ) → is_home C x ≡ true → home_copy C x ≡ x
unfolding home_copy
home_self C x h = rw h refl

-- a home dart goes on to the home dart that follows it
pub record Moves (C : DartLinks) (x : ℕ) : Type 0 where
  pub follows : follow C x ≡ Some ((library_map C).next x)
  pub home : is_home C ((library_map C).next x) ≡ true

pub home_moves : (C : DartLinks) → HasFollowers C → (x : ℕ) → is_home C x ≡ true → Moves C x
home_moves C a x h =
    let f : (e : ℕ) × (follow C x ≡ Some e) = a.follows x (home_has C x h) in
    let e : (library_map C).next x ≡ f.0 = ap (λ b. cond b (unwrap_or (follow C x) x) x) h ∙ ap (λ o. unwrap_or o x) f.1 in
    record { follows = f.1 ∙ ap (λ z. Some z) (sym e); home = ap (is_home C) e ∙ follow_home C x f.0 f.1 }

pub away_stays : (C : DartLinks) (x : ℕ) → is_home C x ≡ false → (library_map C).next x ≡ x
away_stays C x h = ap (λ b. cond b (unwrap_or (follow C x) x) x) h

pub next_apart : (C : DartLinks) → HasFollowers C → (d e : ℕ) → (library_map C).next d ≡ (library_map C).next e → d ≡ e
next_apart C a d e q = elim (cases_Bool (is_home C d)) [
  | inl hd ↦ (elim (cases_Bool (is_home C e)) [
    | inl he ↦ a.follow_apart d e hd he ((home_moves C a d hd).follows ∙ ap (λ z. Some z) q ∙ sym (home_moves C a e he).follows)
    | inr ne ↦ absurd (never_both (is_home C e) (ap (is_home C) (sym (away_stays C e ne)) ∙ ap (is_home C) (sym q) ∙ (home_moves C a d hd).home) ne)
  ])
  | inr nd ↦ (elim (cases_Bool (is_home C e)) [
    | inl he ↦ absurd (never_both (is_home C d) (ap (is_home C) (sym (away_stays C d nd)) ∙ ap (is_home C) q ∙ (home_moves C a e he).home) nd)
    | inr ne ↦ sym (away_stays C d nd) ∙ q ∙ away_stays C e ne
  ])
]
