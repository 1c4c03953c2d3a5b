-- Numbers that pass tests, counted; and counts that are summed over numbers.
use Rattle.std.proofs.Common.{[], ◌≡◌, ◌≤◌, ◌<◌, ℕ, suc, zero, ◌+◌, ◌*◌, Bool, true, false, List, ◌∷◌, length, refl, ap, arith, inl, inr, ◌||◌, eqb, ◌&&◌, map}
use Rattle.std.specs.Prelude.{count_by}
use Rattle.std.specs.List.{list_any, range_with_len}
use Rattle.std.proofs.lemmas.Bool.{cases_eq, ne_eqb}
use Rattle.std.proofs.lemmas.List.Sums.{sum_by-cons}
use Rattle.vpf_base.proofs.Booleans.{one_if}

pub count_cons : {X : Type 0} (p : X → Bool) (x : X) (xs : List X) → count_by p (x ∷ xs) ≡ one_if (p x) + count_by p xs
count_cons p x xs = sum_by-cons (λ y. one_if (p y)) x xs

-- ---- one list

-- where a test passes only what another one passes, it counts no more
pub count_less : {X : Type 0} (p q : X → Bool) → ((x : X) → p x ≡ true → q x ≡ true) → (xs : List X) → count_by p xs ≤ count_by q xs
count_less p q less [] = omega arith
count_less p q less (x ∷ xs) =
    let a : count_by p (x ∷ xs) ≡ one_if (p x) + count_by p xs = count_cons p x xs in
    let b : count_by q (x ∷ xs) ≡ one_if (q x) + count_by q xs = count_cons q x xs in
    let rest : count_by p xs ≤ count_by q xs = count_less p q less xs in
    let here : one_if (p x) ≤ one_if (q x) = by (p x) (q x) (less x) in
    omega arith
  where
    by : (b c : Bool) → (b ≡ true → c ≡ true) → one_if b ≤ one_if c
    by false c h = omega arith
    by true c h = rw (h refl) (omega arith)

-- what passes one of two tests
pub count_either : {X : Type 0} (p q : X → Bool) (xs : List X) → count_by (λ x. p x || q x) xs ≤ count_by p xs + count_by q xs
count_either p q [] = omega arith
count_either p q (x ∷ xs) =
    let e : count_by (λ y. p y || q y) (x ∷ xs) ≡ one_if (p x || q x) + count_by (λ y. p y || q y) xs = count_cons (λ y. p y || q y) x xs in
    let a : count_by p (x ∷ xs) ≡ one_if (p x) + count_by p xs = count_cons p x xs in
    let b : count_by q (x ∷ xs) ≡ one_if (q x) + count_by q xs = count_cons q x xs in
    let rest : count_by (λ y. p y || q y) xs ≤ count_by p xs + count_by q xs = count_either p q xs in
    let here : one_if (p x || q x) ≤ one_if (p x) + one_if (q x) = by (p x) (q x) in
    omega arith
  where
    by : (b c : Bool) → one_if (b || c) ≤ one_if b + one_if c
    by true c = omega arith
    by false c = omega arith

-- a number stands once among rising ones
pub count_same : (a from many : ℕ) → count_by (λ n. eqb a n) (range_with_len from many) ≤ 1
count_same a from zero = omega arith
count_same a from (suc many) = elim (cases_eq a from) [
  | inl e ↦ (
      let c = count_cons (λ n. eqb a n) from (range_with_len (from + 1) many) in
      let none : count_by (λ n. eqb a n) (range_with_len (from + 1) many) ≡ 0 = below a (from + 1) many (omega (arith, e)) in
      let one : one_if (eqb a from) ≤ 1 = at_most (eqb a from) in
      omega (arith, c, none, one))
  | inr n ↦ (
      let c = count_cons (λ n. eqb a n) from (range_with_len (from + 1) many) in
      let rest = count_same a (from + 1) many in
      let no : one_if (eqb a from) ≡ 0 = ap one_if (ne_eqb a from n) in
      omega (arith, c, rest, no))
]
  where
    at_most : (b : Bool) → one_if b ≤ 1
    at_most true = omega arith
    at_most false = omega arith

    below : (a from many : ℕ) → a < from → count_by (λ n. eqb a n) (range_with_len from many) ≡ 0
    below a from zero h = refl
    below a from (suc many) h =
        let c = count_cons (λ n. eqb a n) from (range_with_len (from + 1) many) in
        let no : one_if (eqb a from) ≡ 0 = ap one_if (ne_eqb a from (λ e. omega (arith, e, h))) in
        let rest = below a (from + 1) many (omega (arith, h)) in
        omega (arith, c, no, rest)

-- what makes members pass a test makes them pass it afterwards
pub count_made : {X Y : Type 0} (p : Y → Bool) (f : X → Y) (xs : List X) → count_by p (map f xs) ≡ count_by (λ x. p (f x)) xs
count_made p f [] = refl
count_made p f (x ∷ xs) =
    let a = count_cons p (f x) (map f xs) in
    let b = count_cons (λ y. p (f y)) x xs in
    let rest = count_made p f xs in
    omega (arith, a, b, rest)

-- nothing passes
count_no : (ns : List ℕ) → count_by (λ n. false) ns ≡ 0
count_no [] = refl
count_no (n ∷ ns) = let a = count_cons (λ m. false) n ns in let b = count_no ns in omega (arith, a, b)

-- the numbers that something which passes names, among rising ones, are no more than what passes
pub count_named : (p : ℕ → Bool) (g : ℕ → ℕ) (xs : List ℕ) (from many : ℕ)
    → count_by (λ n. list_any (λ x. p x && eqb (g x) n) xs) (range_with_len from many) ≤ count_by p xs
count_named p g [] from many = let e = count_no (range_with_len from many) in omega (arith, e)
count_named p g (x ∷ xs) from many =
    let either = count_either (λ n. p x && eqb (g x) n) (λ n. list_any (λ y. p y && eqb (g y) n) xs) (range_with_len from many) in
    let here = one_named (p x) (g x) from many in
    let rest = count_named p g xs from many in
    let all = count_cons p x xs in
    omega (arith, either, here, rest, all)
  where
    one_named : (b : Bool) (a from many : ℕ) → count_by (λ n. b && eqb a n) (range_with_len from many) ≤ one_if b
    one_named true a from many = count_same a from many
    one_named false a from many = let e = count_no (range_with_len from many) in omega (arith, e)

-- ---- sums

-- what numbers have in all
abbrev pub summed : (ℕ → ℕ) → List ℕ → ℕ
summed f [] = 0
summed f (n ∷ ns) = f n + summed f ns

-- counts of one list by the tests of some numbers: where each member passes at most two of the tests, they come to at most two for each member
pub summed_counts : {X : Type 0} (p : ℕ → X → Bool) (ns : List ℕ) → ((x : X) → count_by (λ n. p n x) ns ≤ 2) → (xs : List X)
    → summed (λ n. count_by (p n) xs) ns ≤ 2 * length xs
summed_counts p ns twice [] = let e = summed_zero ns in omega (arith, e)
  where
    summed_zero : (ns : List ℕ) → summed (λ n. 0) ns ≡ 0
    summed_zero [] = refl
    summed_zero (n ∷ ns) = let e = summed_zero ns in omega (arith, e)
summed_counts p ns twice (x ∷ xs) =
    let split = one_more p x xs ns in
    let here = twice x in
    let rest = summed_counts p ns twice xs in
    omega (arith, split, here, rest)
  where
    one_more : {X : Type 0} (p : ℕ → X → Bool) (x : X) (xs : List X) (ns : List ℕ)
        → summed (λ n. count_by (p n) (x ∷ xs)) ns ≡ count_by (λ n. p n x) ns + summed (λ n. count_by (p n) xs) ns
    one_more p x xs [] = refl
    one_more p x xs (n ∷ ns) =
        let a = count_cons (p n) x xs in
        let b = count_cons (λ m. p m x) n ns in
        let rest = one_more p x xs ns in
        omega (arith, a, b, rest)
