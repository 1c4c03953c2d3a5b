-- Small facts on tests.
use Rattle.std.proofs.Common.{◌≡◌, ℕ, Bool, true, false, not, eqb, ◌||◌, refl, inl, inr, arith, Option, Some, None}
use Rattle.std.specs.Prelude.{is_some}
use Rattle.std.proofs.lemmas.Bool.{cases_eq, eq-eqb, ne_eqb}
use Rattle.std.proofs.lemmas.Bool.Decides.{nat_tests}

-- what holds of both signs holds of each
pub of_both : (P : Bool → Type 0) → P true → P false → (m : Bool) → P m
of_both P a b true = a
of_both P a b false = b

-- one of two tests holds
pub right_of : (a b : Bool) → (a || b) ≡ true → b ≡ false → a ≡ true
right_of true b h f = refl
right_of false b h f = absurd cc

pub left_of : (a b : Bool) → (a || b) ≡ true → a ≡ false → b ≡ true
left_of true b h f = absurd cc
left_of false b h f = h

pub either_of : (a b : Bool) → (a ≡ false → b ≡ true) → (a || b) ≡ true
either_of true b h = refl
either_of false b h = h refl

-- where one test holds, another does
pub implied : (a b : Bool) → (not a || b) ≡ true → a ≡ true → b ≡ true
implied true b h t = h
implied false b h t = absurd cc

pub implies : (a b : Bool) → (a ≡ true → b ≡ true) → (not a || b) ≡ true
implies true b h = h refl
implies false b h = refl

pub none_of : {A : Type 0} (o : Option A) → not (is_some o) ≡ true → o ≡ None
none_of None h = refl
none_of (Some x) h = absurd cc

pub of_none : {A : Type 0} (o : Option A) → o ≡ None → not (is_some o) ≡ true
of_none None h = refl
of_none (Some x) h = absurd cc

-- two numbers are apart where two others are equal
pub excluded : (a b p q : ℕ) → (not (eqb a b) || not (eqb p q)) ≡ true → a ≡ b → p ≡ q → ⊥
excluded a b p q h e f = grind (arith, nat_tests)

pub excludes : (a b p q : ℕ) → (a ≡ b → p ≡ q → ⊥) → (not (eqb a b) || not (eqb p q)) ≡ true
excludes a b p q h = elim (cases_eq a b) [
  | inl e ↦ rw (eq-eqb a b e, ne_eqb p q (h e)) refl
  | inr ne ↦ rw (ne_eqb a b ne) refl
]
