-- Laws of the places of numbers in lists, and in lists that rise.
use Rattle.std.proofs.Common.{◌≡◌, ℕ, zero, suc, ◌+◌, ◌<◌, true, false, eqb, List, [], ◌∷◌, length, get_or, refl, sym, subst, ◌∙◌, inl, inr, arith}
use Rattle.std.specs.List.Sorted.{IsStrictlyIncreasing}
use Rattle.std.proofs.lemmas.Bool.{cases_Bool, cases_eq, cases_lt, or_cases, or_left, or_right, eqb-true, eq-eqb}
use Rattle.vpf_wing.specs.Inner.DartLaws.{never_both, stands_in}
use Rattle.vpf_wing.specs.Inner.Kept.Kept.{place_among}

-- a number of the list stands at its place
pub at_place : (xs : List ℕ) (x : ℕ) → stands_in x xs ≡ true → (place_among xs x < length xs) × (get_or xs (place_among xs x) 0 ≡ x)
at_place [] x h = absurd (never_both false h refl)
at_place (y ∷ ys) x h = elim (cases_Bool (eqb x y)) [
  | inl same ↦ rw same (omega arith, sym (eqb-true x y same))
  | inr not_here ↦ (elim (or_cases (eqb x y) (stands_in x ys) h) [
    | inl same ↦ absurd (never_both (eqb x y) same not_here)
    | inr rest ↦ (let p = at_place ys x rest in let below : place_among ys x < length ys = p.0 in rw not_here (omega arith, p.1))
  ])
]

-- what stands at a place stands in the list
pub stands_at : (xs : List ℕ) (i : ℕ) → i < length xs → stands_in (get_or xs i 0) xs ≡ true
stands_at [] i h = absurd (omega arith)
stands_at (x ∷ xs) zero h = or_left (eqb x x) (stands_in x xs) (eq-eqb x x refl)
stands_at (x ∷ xs) (suc i) h = or_right (eqb (get_or xs i 0) x) (stands_in (get_or xs i 0) xs) (stands_at xs i (omega arith))

-- the later place has the larger number
pub rises : (xs : List ℕ) → IsStrictlyIncreasing xs → (i j : ℕ) → i < j → j < length xs → get_or xs i 0 < get_or xs j 0
rises xs up i zero lt below = absurd (omega arith)
rises xs up i (suc j) lt below =
    let e : j + 1 ≡ suc j = omega arith in
    let step : get_or xs j 0 < get_or xs (suc j) 0 = subst (λ k. get_or xs j 0 < get_or xs k 0) e (up j (omega arith)) in
    elim (cases_eq i j) [
      | inl same ↦ subst (λ k. get_or xs k 0 < get_or xs (suc j) 0) (sym same) step
      | inr before ↦ (let rest : get_or xs i 0 < get_or xs j 0 = rises xs up i j (omega arith) (omega arith) in omega arith)
    ]

-- no number stands at two places
pub apart_at : (xs : List ℕ) → IsStrictlyIncreasing xs → (i j : ℕ) → i < length xs → j < length xs → get_or xs i 0 ≡ get_or xs j 0 → i ≡ j
apart_at xs up i j hi hj same = elim (cases_lt i j) [
  | inl lt ↦ (let up' : get_or xs i 0 < get_or xs j 0 = rises xs up i j lt hj in absurd (omega arith))
  | inr ge ↦ (elim (cases_eq i j) [
    | inl e ↦ e
    | inr ne ↦ (let up' : get_or xs j 0 < get_or xs i 0 = rises xs up j i (omega arith) hi in absurd (omega arith))
  ])
]

-- a number that stands at a place has that place
pub place_of_at : (xs : List ℕ) → IsStrictlyIncreasing xs → (i x : ℕ) → i < length xs → get_or xs i 0 ≡ x → i ≡ place_among xs x
place_of_at xs up i x h is =
    let there : stands_in x xs ≡ true = subst (λ y. stands_in y xs ≡ true) is (stands_at xs i h) in
    let p = at_place xs x there in
    apart_at xs up i (place_among xs x) h p.0 (is ∙ sym p.1)
