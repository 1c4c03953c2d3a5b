-- Lemmas on marks of what was met, and on lists in which no number stands twice.
use Rattle.std.proofs.Common.{[], ◌≡◌, ◌≢◌, ℕ, ◌+◌, ◌<◌, ◌≤◌, Bool, true, false, cond, List, ◌∷◌, length, take, set, get_or, get_or-set_same, get_or-set_other, zero, suc, refl, sym, ap, inl, inr, arith}
use Rattle.std.proofs.lemmas.Bool.{cases_eq}
use Rattle.std.proofs.lemmas.Bool.Decides.{nat_tests}
use Rattle.std.proofs.lemmas.List.{take_more}
use Rattle.vpf_darts.specs.Cycles.{count_of}
use Rattle.vpf_darts.proofs.CycleLemmas.{count_of-more}
use Rattle.vpf_darts.specs.Inner.CycleLaws.{count_of-append, count_of-step, count_of-here, count_of-not_here}

-- one more number is met and marked
pub counts_more : (xs : List ℕ) (marks : List Bool) (k at : ℕ) → k < length xs → at < length marks → get_or xs k 0 ≡ at → get_or marks at false ≡ false → ((x : ℕ) → count_of x (take k xs) ≡ cond (get_or marks x false) 1 0) → (x : ℕ) → count_of x (take (k + 1) xs) ≡ cond (get_or (set marks at true) x false) 1 0
counts_more xs marks k at in' at_in is unmarked counts x = rw (take_more xs k 0 in', count_of-append, is, counts x) (elim (cases_eq at x) [
  | inl e ↦ rw (← e, get_or-set_same marks at true false at_in, unmarked) (grind (arith, nat_tests))
  | inr ne ↦ (let other : x ≢ at = λ e. ne (sym e) in rw (get_or-set_other marks at x true false other, count_of-step at x [] ne) (omega arith))
])

-- an element of a list is counted
pub counted : (xs : List ℕ) (i : ℕ) → i < length xs → 0 < count_of (get_or xs i 0) xs
counted [] i h = absurd (omega arith)
counted (x ∷ xs) zero h = count_of-here x xs
counted (x ∷ xs) (suc i) h = omega (arith, counted xs i (omega arith))

-- the first of a list in which no number stands twice is none of the others
pub first_apart : (x : ℕ) (xs : List ℕ) → ((y : ℕ) → count_of y (x ∷ xs) ≤ 1) → (j : ℕ) → j < length xs → x ≡ get_or xs j 0 → ⊥
first_apart x xs once j hj e =
    let h : 0 < count_of x xs = rw e (counted xs j hj) in
    let one : count_of x (x ∷ xs) ≡ 1 + count_of x xs = count_of-more x xs in
    let le : count_of x (x ∷ xs) ≤ 1 = once x in
    omega arith

-- no number stands in the list twice
abbrev pub StandOnce : List ℕ → Type 0
StandOnce xs = (x : ℕ) → count_of x xs ≤ 1

-- places of a list in which no number stands twice hold different numbers
pub apart_from_once : (xs : List ℕ) → StandOnce xs → (i j : ℕ) → i < length xs → j < length xs → get_or xs i 0 ≡ get_or xs j 0 → i ≡ j
apart_from_once [] once i j hi hj e = absurd (omega arith)
apart_from_once (x ∷ xs) once zero zero hi hj e = refl
apart_from_once (x ∷ xs) once zero (suc j) hi hj e = absurd (first_apart x xs once j (omega arith) e)
apart_from_once (x ∷ xs) once (suc i) zero hi hj e = absurd (first_apart x xs once i (omega arith) (sym e))
apart_from_once (x ∷ xs) once (suc i) (suc j) hi hj e = ap suc (apart_from_once xs (λ y. let h : count_of y (x ∷ xs) ≤ 1 = once y in omega arith) i j (omega arith) (omega arith) e)

-- a number that is counted stands somewhere
pub place_of_counted : (xs : List ℕ) (x : ℕ) → 0 < count_of x xs → (i : ℕ) × (i < length xs) × (get_or xs i 0 ≡ x)
place_of_counted [] x h = absurd (omega arith)
place_of_counted (y ∷ xs) x h = elim (cases_eq y x) [
  | inl e ↦ (0, omega arith, e)
  | inr ne ↦ (
      let rest : (i : ℕ) × (i < length xs) × (get_or xs i 0 ≡ x) = place_of_counted xs x (count_of-not_here y x xs ne h) in
      (suc rest.0, omega (arith, rest.1), rest.2))
]
