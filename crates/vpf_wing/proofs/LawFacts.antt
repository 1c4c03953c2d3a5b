-- Small facts on tests and numbers.
use Rattle.std.proofs.Common.{◌≡◌, ℕ, ◌<◌, ◌≤◌, ◌⊎◌, Bool, true, false, not, eqb, ltb, ◌||◌, Option, Some, None, refl, inl, inr, arith}
use Rattle.std.proofs.lemmas.Bool.{cases_eq}
use Rattle.std.proofs.lemmas.Bool.Decides.{nat_tests}
use Rattle.vpf_findings.specs.Firsts.{unless}

pub same : (x y : ℕ) → x ≡ y → eqb x y ≡ true
same x y e = grind (arith, nat_tests)

pub apart : (x y : ℕ) → (x ≡ y → ⊥) → eqb x y ≡ false
apart x y ne = grind (arith, nat_tests)

pub below : (x y : ℕ) → x < y → ltb x y ≡ true
below x y h = grind (arith, nat_tests)

pub past : (x y : ℕ) → y ≤ x → ltb x y ≡ false
past x y h = grind (arith, nat_tests)

pub unless_holds : {F : Type 0} (b : Bool) (f : F) → b ≡ true → unless b f ≡ None
unless_holds true f h = refl
unless_holds false f h = absurd cc

-- a test of two numbers where others are equal
pub implies_is : (a b p q : ℕ) → (not (eqb a b) || eqb p q) ≡ true → a ≡ b → p ≡ q
implies_is a b p q h e = grind (arith, nat_tests)

pub implies_from : (a b p q : ℕ) → (a ≡ b → p ≡ q) → (not (eqb a b) || eqb p q) ≡ true
implies_from a b p q h = elim (cases_eq a b) [
  | inl e ↦ rw (same a b e, same p q (h e)) refl
  | inr ne ↦ rw (apart a b ne) refl
]

-- a test of two numbers that are apart where others are equal
pub excludes_is : (a b p q : ℕ) → (not (eqb a b) || not (eqb p q)) ≡ true → a ≡ b → p ≡ q → ⊥
excludes_is a b p q h e f = grind (arith, nat_tests)

pub excludes_from : (a b p q : ℕ) → (a ≡ b → p ≡ q → ⊥) → (not (eqb a b) || not (eqb p q)) ≡ true
excludes_from a b p q h = elim (cases_eq a b) [
  | inl e ↦ rw (same a b e, apart p q (h e)) refl
  | inr ne ↦ rw (apart a b ne) refl
]

-- one of two tests of numbers holds
pub either_is : (a b p q : ℕ) → (eqb a b || eqb p q) ≡ true → (a ≡ b) ⊎ (p ≡ q)
either_is a b p q h = elim (cases_eq a b) [
  | inl e ↦ inl e
  | inr ne ↦ inr (grind (arith, nat_tests))
]

pub either_from : (a b p q : ℕ) → (a ≡ b) ⊎ (p ≡ q) → (eqb a b || eqb p q) ≡ true
either_from a b p q (inl e) = rw (same a b e) refl
either_from a b p q (inr e) = grind (arith, nat_tests)

pub zero_or_some : (m : ℕ) → (m ≡ 0) ⊎ (0 < m)
zero_or_some m = elim (cases_eq m 0) [ inl e ↦ inl e | inr ne ↦ inr (omega arith) ]

pub none_some : {A : Type 0} (y : A) → None ≡ Some y → ⊥
none_some y h = cc

pub some_same : {A : Type 0} (x y : A) → Some x ≡ Some y → x ≡ y
some_same x y h = cc

pub some_or_none : {A : Type 0} (o : Option A) → ((x : A) × (o ≡ Some x)) ⊎ (o ≡ None)
some_or_none None = inr refl
some_or_none (Some x) = inl (x, refl)
