-- The lines of a library that agrees, and what is left without them.
use Rattle.std.proofs.Common.{◌≡◌, ℕ, true, false, cond, refl, sym, ap, ◌∙◌, subst, inl, inr, Option, Some, None}
use Rattle.std.specs.Prelude.{is_some}
use Rattle.std.proofs.lemmas.Bool.{cases_Bool}
use Rattle.vpf_darts.specs.Darts.{tile_in, edge_in, sign_in, flip}
use Rattle.vpf_darts.specs.Maps.{IsMap}
use Rattle.vpf_prims.specs.Lists.{kth}
use Rattle.vpf_prims.specs.Primitives.{Library, absent_edge, tile_edges}
use Rattle.vpf_wing.specs.Links.{DartLinks, links_of}
use Rattle.vpf_cross.specs.Following.{follow, home_copy, is_home, library_map}
use Rattle.vpf_cross.specs.Sided.{HasFollowers}
use Rattle.vpf_cross.specs.VpfFollowLaws.{HomesExist}
use Rattle.vpf_wing.specs.Inner.DartLaws.{flip-edge, flip-flip, flip-has, flip-sign, flip-tile, never_both}
use Rattle.vpf_cross.specs.FollowLaws.{away_outside, away_stays, home_has, home_moves, home_self, next_apart}
use Rattle.vpf_trace.specs.Tracing.{IsTraceable, map_of_library}

-- e is the other dart of d's edge, by its mark and sign
pub record IsOther (L : Library) (d e : ℕ) : Type 0 where
  pub mark : (links_of L).mark e ≡ (links_of L).mark d
  pub sign : sign_in e ≡ sign_in (flip d)

flip_mark : (L : Library) (d : ℕ) → (links_of L).mark (flip d) ≡ (links_of L).mark d
flip_mark L d =
    ap (λ t. (kth (tile_edges L t) (edge_in (flip d)) absent_edge).mark) (flip-tile d)
    ∙ ap (λ k. (kth (tile_edges L (tile_in d)) k absent_edge).mark) (flip-edge d)

-- the other dart of the edge of a home dart
pub flip_is : (C : DartLinks) (x : ℕ) → is_home C x ≡ true → (library_map C).flip x ≡ home_copy C (flip x)
flip_is C x h = ap (λ b. cond b (home_copy C (flip x)) x) h

pub other : (L : Library) → IsTraceable L → (d : ℕ) → is_home (links_of L) d ≡ true → IsOther L d ((map_of_library L).flip d)
other L a d home =
    let C : DartLinks = links_of L in
    subst (IsOther L d) (sym (flip_is C d home)) (elim (cases_Bool (is_home C (flip d))) [
      | inl there ↦ subst (IsOther L d) (sym (home_self C (flip d) there)) (record { mark = flip_mark L d; sign = refl })
      | inr away ↦ (
          let out = away_outside C (flip d) (flip-has L d (home_has C d home)) away in
          record { mark = sym (a.marks (flip d) out) ∙ flip_mark L d; sign = a.signs (flip d) out })
    ])

some_there : (o : Option ℕ) → is_some o ≡ true → (e : ℕ) × (o ≡ Some e)
some_there None h = absurd (never_both false h refl)
some_there (Some e) h = (e, refl)

pub followers : (L : Library) → IsTraceable L → HasFollowers (links_of L)
followers L a = record { follows = λ d h. some_there (follow (links_of L) d) (a.follows d h); follow_apart = a.follow_apart }

pub library_is_map : HomesExist → (L : Library) → IsTraceable L → IsMap (map_of_library L)
library_is_map law L a =
    let C : DartLinks = links_of L in
    let has : (x : ℕ) → is_home (links_of L) x ≡ true → (links_of L).has (flip x) ≡ true = λ x home. flip-has L x (home_has C x home) in
    let turned : (x : ℕ) → is_home (links_of L) x ≡ true → is_home (links_of L) ((map_of_library L).flip x) ≡ true = λ x home.
    ap (is_home C) (flip_is C x home) ∙ (law L (followers L a) (flip x) (has x home)).home in
    record {
      next_apart = next_apart C (followers L a);
      next_live = λ d. elim (cases_Bool (is_home C d)) [
        | inl home ↦ (home_moves C (followers L a) d home).home ∙ sym home
        | inr g ↦ ap (is_home C) (away_stays C d g)
      ];
      next_dead = away_stays C;
      live_has = λ d home. home;
      flip_has = turned;
      flip_live = λ d home. turned d home ∙ sym home;
      flip_flip = λ d home. flip_is C ((map_of_library L).flip d) (turned d home) ∙ ap (λ z. home_copy C (flip z)) (flip_is C d home) ∙
          (elim (cases_Bool (is_home C (flip d))) [
            | inl there ↦ ap (λ z. home_copy C (flip z)) (home_self C (flip d) there) ∙ ap (home_copy C) (flip-flip d) ∙ home_self C d home
            | inr g ↦ a.flips (flip d) (away_outside C (flip d) (has d home) g) ∙ flip-flip d
          ]);
      flip_apart = λ d home e. flip-sign d (sym (other L a d home).sign ∙ ap sign_in e);
    }
