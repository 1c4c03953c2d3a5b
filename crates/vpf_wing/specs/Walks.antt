-- Walks along a function on darts, and the cycle of a dart by its least dart.
use Rattle.std.specs.Prelude.{◌≡◌, ℕ, zero, suc, min}

-- y is k steps after x
abbrev pub Steps : (ℕ → ℕ) → ℕ → ℕ → ℕ → Type 0
Steps next zero x y = x ≡ y
Steps next (suc k) x y = Steps next k (next x) y

-- steps lead from x to y; where the function is a permutation, the two are on one cycle
abbrev pub LeadsTo : (ℕ → ℕ) → ℕ → ℕ → Type 0
LeadsTo next x y = (k : ℕ) × Steps next k x y

-- the least of x and the k darts after it
abbrev pub least_after : (ℕ → ℕ) → ℕ → ℕ → ℕ
least_after next zero x = x
least_after next (suc k) x = min x (least_after next k (next x))
