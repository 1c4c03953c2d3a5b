-- A loop over keys that keeps where each stands first.
use Rattle.std.proofs.Common.{◌≡◌, ℕ, zero, suc, ◌+◌, ◌≤◌, eqb, List, [], ◌∷◌, length, drop, get_or, arith, inl, inr}
use Rattle.std.proofs.lemmas.Bool.{cases_eq}
use Rattle.vpf_prims.specs.Lists.{first_from}
use Rattle.vpf_wing.specs.Inner.FirstNumbers.{first_of_key}
use Rattle.vpf_wing.proofs.NextLemmas.{eqb_same, eqb_apart}

-- the number that is held, or the first of those to come
abbrev pub held_or : ℕ → ℕ → ℕ
held_or zero later = later
held_or (suc k) later = suc k

-- the first numbers among k keys, and else those to come, are those of all keys
abbrev pub HoldSoFar : List ℕ → List ℕ → ℕ → Type 0
HoldSoFar keys firsts k = (key : ℕ) → held_or (get_or firsts key 0) (first_from (k + 1) (λ x. eqb x key) (drop k keys)) ≡ first_of_key keys key

first_from-within : (key k : ℕ) (keys : List ℕ) → first_from (k + 1) (λ x. eqb x key) keys ≤ k + length keys
first_from-within key k [] = omega arith
first_from-within key k (x ∷ keys) = elim (cases_eq x key) [
  | inl e ↦ rw (eqb_same x key e) (omega arith)
  | inr ne ↦ (let e : suc (k + 1) ≡ (k + 1) + 1 = omega arith in rw (eqb_apart x key ne, e) (omega (arith, first_from-within key (k + 1) keys)))
]

-- a first number is that of an item
pub first_within : (keys : List ℕ) (key : ℕ) → first_of_key keys key ≤ length keys
first_within keys key = omega (arith, first_from-within key 0 keys)
