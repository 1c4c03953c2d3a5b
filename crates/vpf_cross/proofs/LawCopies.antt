-- A home dart has no two copies in a tile, and the one that it has is found by the other dart of its edge.
use Rattle.std.proofs.Common.{◌≡◌, ℕ, Bool, true, false, cond, eqb, ◌&&◌, refl, sym, ap, ◌∙◌, inl, inr, Option, Some, None}
use Rattle.std.proofs.lemmas.Bool.{cases_Bool, and_parts, and_from, eqb-true, eq-eqb}
use Rattle.vpf_darts.specs.Darts.{tile_in, flip}
use Rattle.vpf_findings.specs.Firsts.{where_holds}
use Rattle.vpf_prims.specs.Coverages.{CoverageTables}
use Rattle.vpf_wing.specs.Links.{DartLinks}
use Rattle.vpf_prims.specs.Libraries.{library_of}
use Rattle.vpf_follow.specs.Following.{is_home, home_copy}
use Rattle.vpf_follow.specs.Inner.Laws.{HomesExist}
use Rattle.vpf_wing.specs.Inner.DartLaws.{some-or-none, never_both, flip-flip, flip-has, flip-tile}
use Rattle.vpf_follow.specs.Inner.FollowLaws.{home_has, home_self, away_outside}
use Rattle.vpf_cross.specs.HomeLines.{coverage_links}
use Rattle.vpf_cross.specs.RoundLines.{copy_in_tile}
use Rattle.vpf_cross.specs.Agreeing.{IsCopy}
use Rattle.vpf_cross.specs.Inner.Laws.{FlipsInTiles, CopiesAreOne, FlipsGiveCopies, flip_in_tile}
use Rattle.vpf_cross.proofs.LawUnique.{one_copy}
use Rattle.vpf_cross.proofs.LawRounds.{copy_found, found_copy}

pub copies_are_one : HomesExist → CopiesAreOne
copies_are_one law c f = one_copy c f.few f.numbered f.sides (record { exist = law; follows = f.follows; flips = f.back })

-- a copy in a tile is what is found there
copy_is : HomesExist → (c : CoverageTables) → FlipsInTiles c → (t y e : ℕ) → IsCopy (coverage_links c) t y e → copy_in_tile (coverage_links c) t y ≡ Some e
copy_is law c f t y e copy =
    let w : (w : ℕ) × (copy_in_tile (coverage_links c) t y ≡ Some w) = copy_found (library_of c) t y e copy in
    w.1 ∙ ap (λ z. Some z) (copies_are_one law c f t y w.0 e (found_copy c f.few t y w.0 w.1) copy)

holds_is : {A : Type 0} (b : Bool) (x : A) → b ≡ true → where_holds b x ≡ Some x
holds_is true x h = refl
holds_is false x h = absurd (never_both false h refl)

holds_not : {A : Type 0} (b : Bool) (x : A) → b ≡ false → where_holds b x ≡ None
holds_not true x h = absurd (never_both true refl h)
holds_not false x h = refl

-- a home dart's copy in another tile is an outside dart, and its other dart is the home copy of the home dart's other dart
copy_flips : (c : CoverageTables) → FlipsInTiles c → (t y e : ℕ) → is_home (coverage_links c) y ≡ true → (tile_in y ≡ t → ⊥) → IsCopy (coverage_links c) t y e
    → home_copy (coverage_links c) (flip y) ≡ flip e
copy_flips c f t y e home other copy =
    let C : DartLinks = coverage_links c in
    let is : home_copy (coverage_links c) e ≡ y = copy.home ∙ home_self C y home in
    elim (cases_Bool (is_home C e)) [
      | inl h ↦ absurd (other (ap tile_in (sym is ∙ home_self C e h) ∙ copy.tile))
      | inr away ↦ ap (λ z. home_copy C (flip z)) (sym is) ∙ f.back e (away_outside C e copy.has away)
    ]

-- where the test of the flip fails, there is no copy
none_there : (c : CoverageTables) → FlipsInTiles c → (t y : ℕ) → is_home (coverage_links c) y ≡ true → (tile_in y ≡ t → ⊥)
    → (eqb (tile_in (home_copy (coverage_links c) (flip y))) t && eqb (home_copy (coverage_links c) (flip (home_copy (coverage_links c) (flip y)))) y) ≡ false
    → copy_in_tile (coverage_links c) t y ≡ None
none_there c f t y home other fails =
    let C : DartLinks = coverage_links c in
    elim (some-or-none (copy_in_tile C t y)) [
      | inr none ↦ none
      | inl e ↦ (
          let copy : IsCopy (coverage_links c) t y e.0 = found_copy c f.few t y e.0 e.1 in
          let flipped : home_copy (coverage_links c) (flip y) ≡ flip e.0 = copy_flips c f t y e.0 home other copy in
          let tile = eq-eqb (tile_in (home_copy C (flip y))) t (ap tile_in flipped ∙ flip-tile e.0 ∙ copy.tile) in
          let back =
          eq-eqb (home_copy C (flip (home_copy C (flip y)))) y
          (ap (λ z. home_copy C (flip z)) flipped ∙ ap (home_copy C) (flip-flip e.0) ∙ copy.home ∙ home_self C y home) in
          absurd (never_both _ (and_from _ _ tile back) fails))
    ]

-- and where it holds, the flip is a copy
flip_copies : HomesExist → (c : CoverageTables) → FlipsInTiles c → (t y : ℕ) → is_home (coverage_links c) y ≡ true
    → (eqb (tile_in (home_copy (coverage_links c) (flip y))) t && eqb (home_copy (coverage_links c) (flip (home_copy (coverage_links c) (flip y)))) y) ≡ true
    → IsCopy (coverage_links c) t y (flip (home_copy (coverage_links c) (flip y)))
flip_copies law c f t y home holds =
    let C : DartLinks = coverage_links c in
    let z : ℕ = home_copy C (flip y) in
    let own = law (library_of c) f.follows (flip y) (flip-has (library_of c) y (home_has C y home)) in
    let q = and_parts (eqb (tile_in z) t) (eqb (home_copy C (flip z)) y) holds in
    record {
      has = flip-has (library_of c) (home_copy C (flip y)) (home_has C (home_copy C (flip y)) own.home);
      tile = flip-tile (home_copy C (flip y)) ∙ eqb-true _ _ q.0;
      home = eqb-true _ _ q.1 ∙ sym (home_self C y home);
    }

pub flips_give_copies : HomesExist → FlipsGiveCopies
flips_give_copies law c f t y home =
    let C : DartLinks = coverage_links c in
    let z : ℕ = home_copy C (flip y) in
    let rest : Option ℕ = flip_in_tile C t y z in
    elim (cases_Bool (eqb (tile_in y) t)) [
      | inl here ↦ copy_is law c f t y y (record { has = home_has C y home; tile = eqb-true _ _ here; home = refl }) ∙ sym
          (ap (λ b. cond b (Some y) rest) here)
      | inr other ↦ (elim (cases_Bool (eqb (tile_in z) t && eqb (home_copy C (flip z)) y)) [
        | inl holds ↦ copy_is law c f t y (flip z) (flip_copies law c f t y home holds) ∙ sym (holds_is _ (flip z) holds) ∙ sym
            (ap (λ b. cond b (Some y) rest) other)
        | inr fails ↦ none_there c f t y home (λ e. never_both (eqb (tile_in y) t) (eq-eqb _ _ e) other) fails ∙ sym (holds_not _ (flip z) fails)
            ∙ sym (ap (λ b. cond b (Some y) rest) other)
      ])
    ]
