-- Where a number stands in a list, and the rows of what stands there.
use Rattle.std.proofs.Common.{◌≡◌, ℕ, Bool, true, false, eqb, refl, sym, ap, ◌∙◌, inl, inr, List, [], ◌∷◌, length, map}
use Rattle.std.specs.List.{list_any}
use Rattle.std.proofs.lemmas.Bool.{or_cases, or_left, or_right, eqb-true, eq-eqb}
use Rattle.vpf_prims.specs.Lists.{kth}
use Rattle.vpf_prims.specs.Numbering.{IsRowOf}
use Rattle.vpf_wing.specs.Inner.DartLaws.{never_both, stands_in}
use Rattle.vpf_tiling.specs.Inner.PresenceLaws.{any_from}
use Rattle.vpf_tiling_laws.proofs.tiled.PlaceLemmas.{FirstRow, first_row}
use Rattle.vpf_tiling_laws.specs.Gluing.Glued.{listed_at}

-- a number that stands in a list stands at its place
pub record Placed (x : ℕ) (xs : List ℕ) : Type 0 where
  pub row : IsRowOf (length xs) (listed_at x xs)
  pub item : kth xs (listed_at x xs) 0 ≡ x

pub placed : (x : ℕ) (xs : List ℕ) → stands_in x xs ≡ true → Placed x xs
placed x xs h =
    let r : FirstRow (λ y. eqb y x) xs 0 (listed_at x xs) = first_row (λ y. eqb y x) 0 xs (any_from (λ y. eqb y x) xs x h (eq-eqb x x refl)) in
    record { row = r.row; item = eqb-true _ x r.passes }

-- two numbers that stand at one place are one
pub place_apart : (x y : ℕ) (xs : List ℕ) → stands_in x xs ≡ true → stands_in y xs ≡ true → listed_at x xs ≡ listed_at y xs → x ≡ y
place_apart x y xs hx hy e = sym (placed x xs hx).item ∙ ap (λ k. kth xs k 0) e ∙ (placed y xs hy).item

-- what is made of one that stands in a list passes
pub any_mapped : {X : Type 0} → (q : X → Bool) (u : ℕ → X) (x : ℕ) (xs : List ℕ) → stands_in x xs ≡ true → q (u x) ≡ true → list_any q (map u xs) ≡ true
any_mapped q u x [] s h = absurd (never_both false s refl)
any_mapped q u x (y ∷ ys) s h = elim (or_cases (eqb x y) (stands_in x ys) s) [
  | inl e ↦ or_left (q (u y)) (list_any q (map u ys)) (ap (λ v. q (u v)) (sym (eqb-true x y e)) ∙ h)
  | inr r ↦ or_right (q (u y)) (list_any q (map u ys)) (any_mapped q u x ys r h)
]
