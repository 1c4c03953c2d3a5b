-- Each dart lies on a cycle: its nexts lead back to it.
use Rattle.std.proofs.Common.{[], ◌≡◌, ℕ, zero, suc, ◌+◌, ◌<◌, ◌≤◌, true, false, eqb, List, ◌∷◌, ◌++◌, length, refl, subst, inl, inr, arith, length-append}
use Rattle.std.specs.List.{IsDistinct, list_any}
use Rattle.std.proofs.lemmas.Bool.{cases_eq, cases_lt}
use Rattle.std.proofs.lemmas.Bool.Decides.{nat_tests}
use Rattle.std.proofs.lemmas.Map.Steps.{length-le_from_distinct_below}
use Rattle.vpf_darts.specs.Cycles.{count_of, IsCycle, first_of}
use Rattle.vpf_darts.specs.Inner.CycleLaws.{IsDartWalk as IsWalk, IsWalk-more, IsWalk-at_start, IsCycle-from_walk, length-counted, first_of-walk, each-counted, count_of-append, count_of-step, count_of-equal}

pub apart_in : (x y : ℕ) (xs : List ℕ) → count_of y (x ∷ xs) ≤ 1 → 0 < count_of y xs → eqb x y ≡ false
apart_in x y xs le h = grind (arith, nat_tests)

pub once_more : (xs : List ℕ) (x y : ℕ) → count_of y xs ≤ 1 → count_of x xs ≡ 0 → count_of y (xs ++ x ∷ []) ≤ 1
once_more xs x y le none = rw count_of-append (elim (cases_eq x y) [
  | inl e ↦ (let z : count_of y xs ≡ 0 = subst (λ v. count_of v xs ≡ 0) e none in let o : count_of y (x ∷ []) ≡ 1 = count_of-equal x y [] e in omega arith)
  | inr ne ↦ (let o : count_of y (x ∷ []) ≡ 0 = count_of-step x y [] ne in omega arith)
])

pub holds_more : (Q : ℕ → Type 0) (xs : List ℕ) (x y : ℕ) → Q x → (0 < count_of y xs → Q y) → 0 < count_of y (xs ++ x ∷ []) → Q y
holds_more Q xs x y qx before h =
    let h' : 0 < count_of y xs + count_of y (x ∷ []) = rw count_of-append at h in
    elim (cases_eq x y) [
      | inl e ↦ subst Q e qx
      | inr ne ↦ (let o : count_of y (x ∷ []) ≡ 0 = count_of-step x y [] ne in before (omega arith))
    ]

-- numbers below n of which none stands twice are at most n
pub distinct_from_once : (xs : List ℕ) → ((y : ℕ) → count_of y xs ≤ 1) → IsDistinct eqb xs
unfolding IsDistinct
distinct_from_once [] once = tt
distinct_from_once (x ∷ xs) once =
    (each-counted (λ y. eqb x y ≡ false) xs (λ y h. apart_in x y xs (once y) h), distinct_from_once xs (λ y. let h : count_of y (x ∷ xs) ≤ 1 = once y in omega arith))

pub not_equal : (q x : ℕ) → (x ≡ q → ⊥) → eqb q x ≡ false
not_equal q x ne = grind (arith, nat_tests)

pub any_counted : (xs : List ℕ) (q : ℕ) → list_any (eqb q) xs ≡ true → 0 < count_of q xs
any_counted [] q h = cc
any_counted (x ∷ xs) q h = elim (cases_eq x q) [
  | inl e ↦ (let o : count_of q (x ∷ xs) ≡ 1 + count_of q xs = count_of-equal x q xs e in omega arith)
  | inr ne ↦ (let o : count_of q (x ∷ xs) ≡ count_of q xs = count_of-step x q xs ne in
      let f : eqb q x ≡ false = not_equal q x ne in
      let h' : list_any (eqb q) xs ≡ true = rw f at h in
      let ih : 0 < count_of q xs = any_counted xs q h' in omega arith)
]

pub few_from_once : (xs : List ℕ) (n : ℕ) → ((y : ℕ) → count_of y xs ≤ 1) → ((y : ℕ) → 0 < count_of y xs → y < n) → length xs ≤ n
few_from_once xs n once below = length-le_from_distinct_below xs n (distinct_from_once xs once) (λ q h. below q (any_counted xs q h))

-- a cycle from s, written out, of darts that all have a property
pub record Returns (next : ℕ → ℕ) (Q : ℕ → Type 0) (s : ℕ) : Type 0 where
  pub darts : List ℕ
  pub cycle : IsCycle next darts
  pub first : first_of darts ≡ s
  pub once : (y : ℕ) → count_of y darts ≤ 1
  pub hold : (y : ℕ) → 0 < count_of y darts → Q y

-- from each number with a property of few numbers, which the nexts keep, the nexts lead back to it
pub walk_returns : (next : ℕ → ℕ) (n s : ℕ) (Q : ℕ → Type 0) → ((d e : ℕ) → next d ≡ next e → d ≡ e) → ((d : ℕ) → Q d → d < n) → ((d : ℕ) → Q d → Q (next d)) → (fuel : ℕ) (xs : List ℕ) (x : ℕ) → IsWalk next s xs x → ((y : ℕ) → count_of y xs ≤ 1) → ((y : ℕ) → 0 < count_of y xs → Q y) → Q x → n < fuel + length xs → Returns next Q s
walk_returns next n s Q apart below keeps zero xs x walk once hold qx few = let le : length xs ≤ n = few_from_once xs n once (λ y h. below y (hold y h)) in absurd (omega arith)
walk_returns next n s Q apart below keeps (suc fuel) xs x walk once hold qx few = elim (cases_lt 0 (count_of x xs)) [
  | inl some ↦ (
      let e : x ≡ s = IsWalk-at_start next apart s xs x walk once some in
      let walk' : IsWalk next s xs s = rw e at walk in
      let full : 0 < length xs = length-counted x xs some in
      record { darts = xs; cycle = IsCycle-from_walk next s xs full walk'; first = first_of-walk next s xs x full walk; once = once; hold = hold })
  | inr none ↦ (
      let len : length (xs ++ x ∷ []) ≡ length xs + 1 = rw length-append (omega arith) in
      walk_returns next n s Q apart below keeps fuel (xs ++ x ∷ []) (next x) (IsWalk-more next s xs x walk)
      (λ y. once_more xs x y (once y) (omega arith)) (λ y h. holds_more Q xs x y qx (hold y) h) (keeps x qx) (omega arith))
]

pub returns : (next : ℕ → ℕ) (n s : ℕ) (Q : ℕ → Type 0) → ((d e : ℕ) → next d ≡ next e → d ≡ e) → ((d : ℕ) → Q d → d < n) → ((d : ℕ) → Q d → Q (next d)) → Q s → Returns next Q s
returns next n s Q apart below keeps qs = walk_returns next n s Q apart below keeps (n + 1) [] s refl (λ y. omega arith) (λ y h. absurd (omega arith)) qs (omega arith)
