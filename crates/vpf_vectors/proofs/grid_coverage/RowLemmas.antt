-- Rows that a function of their ids gives: how many there are, the row of an id, and the first that passes.
use Rattle.std.proofs.Common.{◌≡◌, ◌≢◌, ℕ, zero, suc, ◌+◌, ◌<◌, ◌≤◌, Bool, true, false, map, ap, ◌∙◌, inl, inr, arith}
use Rattle.std.specs.List.{range_with_len}
use Rattle.std.proofs.lemmas.Bool.{cases_eq}
use Rattle.vpf_prims.specs.Lists.{first_from, first_item}

-- the first row that passes is the one that does
first_row_from : {X : Type 0} (p : X → Bool) (f : ℕ → X) (a n k : ℕ) → a ≤ k → k < a + n → p (f k) ≡ true → ((j : ℕ) → j ≢ k → p (f j) ≡ false)
    → first_from a p (map f (range_with_len a n)) ≡ k
first_row_from p f a zero k low high here others = absurd (omega arith)
first_row_from p f a (suc n) k low high here others = elim (cases_eq a k) [
  | inl e ↦ (let t : p (f a) ≡ true = ap (λ j. p (f j)) e ∙ here in rw t e)
  | inr ne ↦ (let s : a + 1 ≡ suc a = omega arith in
      rw (others a ne) (ap (λ b. first_from (suc a) p (map f (range_with_len b n))) s ∙ first_row_from p f (suc a) n k (omega arith) (omega arith) here others))
]

pub first_row : {X : Type 0} (p : X → Bool) (f : ℕ → X) (n k : ℕ) → 1 ≤ k → k ≤ n → p (f k) ≡ true → ((j : ℕ) → j ≢ k → p (f j) ≡ false)
    → first_item p (map f (range_with_len 1 n)) ≡ k
first_row p f n k low high here others = first_row_from p f 1 n k low (omega arith) here others
