-- A tiled library that agrees is a combinatorial map.
use Rattle.std.proofs.Common.{◌≡◌, ℕ, true, cond, sym, ap, ◌∙◌, inl, inr}
use Rattle.std.proofs.lemmas.Bool.{cases_Bool}
use Rattle.vpf_darts.specs.Darts.{sign_in, flip}
use Rattle.vpf_darts.specs.Maps.{IsMap}
use Rattle.vpf_prims.specs.Primitives.{Library}
use Rattle.vpf_wing.specs.Links.{DartLinks, links_of}
use Rattle.vpf_follow.specs.Following.{is_home, home_copy, library_map}
use Rattle.vpf_follow.specs.Sided.{HasFollowers}
use Rattle.vpf_follow.specs.Inner.Laws.{HomesExist}
use Rattle.vpf_wing.specs.Inner.DartLaws.{flip-flip, flip-sign, flip-has}
use Rattle.vpf_follow.specs.Inner.FollowLaws.{home_has, home_self, away_outside, home_moves, away_stays, next_apart}
use Rattle.vpf_cross.specs.Agreeing.{HasHomes}
use Rattle.vpf_cross.specs.Inner.Laws.{AgreeingHasMap}

-- the home copy of a dart has its sign
same_sign : (C : DartLinks) → HasHomes C → (x : ℕ) → C.has x ≡ true → sign_in (home_copy C x) ≡ sign_in x
same_sign C h x has = elim (cases_Bool (is_home C x)) [
  | inl t ↦ ap sign_in (home_self C x t)
  | inr g ↦ h.signs x (away_outside C x has g)
]

-- the other dart of the edge of a home dart
pub flip_is : (C : DartLinks) (x : ℕ) → is_home C x ≡ true → (library_map C).flip x ≡ home_copy C (flip x)
flip_is C x h = ap (λ b. cond b (home_copy C (flip x)) x) h

pub is_map : HomesExist → (L : Library) → HasFollowers (links_of L) → HasHomes (links_of L) → IsMap (library_map (links_of L))
is_map law L a h =
    let C : DartLinks = links_of L in
    let has : (x : ℕ) → is_home (links_of L) x ≡ true → (links_of L).has (flip x) ≡ true = λ x home. flip-has L x (home_has C x home) in
    let turned : (x : ℕ) → is_home (links_of L) x ≡ true → is_home (links_of L) ((library_map (links_of L)).flip x) ≡ true = λ x home.
    ap (is_home C) (flip_is C x home) ∙ (law L a (flip x) (has x home)).home in
    record {
      next_apart = next_apart C a;
      next_live = λ d. elim (cases_Bool (is_home C d)) [ inl home ↦ (home_moves C a d home).home ∙ sym home | inr g ↦ ap (is_home C) (away_stays C d g) ];
      next_dead = away_stays C;
      live_has = λ d home. home;
      flip_has = turned;
      flip_live = λ d home. turned d home ∙ sym home;
      flip_flip = λ d home. flip_is C ((library_map C).flip d) (turned d home) ∙ ap (λ z. home_copy C (flip z)) (flip_is C d home) ∙
          (elim (cases_Bool (is_home C (flip d))) [
            | inl there ↦ ap (λ z. home_copy C (flip z)) (home_self C (flip d) there) ∙ ap (home_copy C) (flip-flip d) ∙ home_self C d home
            | inr g ↦ h.flips (flip d) (away_outside C (flip d) (has d home) g) ∙ flip-flip d
          ]);
      flip_apart = λ d home e. flip-sign d (sym (same_sign C h (flip d) (has d home)) ∙ ap sign_in (sym (flip_is C d home) ∙ e));
    }

pub agreeing_has_map : HomesExist → AgreeingHasMap
agreeing_has_map law L a tiled = is_map law L (a.across tiled).follows (a.across tiled).homes
