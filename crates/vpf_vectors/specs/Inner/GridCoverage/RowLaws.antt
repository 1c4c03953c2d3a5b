-- Rows that a function of their ids gives: how many there are, the row of an id, and the first that passes.
use Rattle.std.proofs.Common.{◌≡◌, ℕ, zero, suc, ◌≤◌, map, arith}
use Rattle.std.specs.List.{range_with_len}
use Rattle.std.proofs.lemmas.List.FromFn.{get_or-map-range_with_len}
use Rattle.vpf_prims.specs.Lists.{kth}

-- the row of an id
pub kth_row : {X : Type 0} (f : ℕ → X) (n k : ℕ) (d : X) → 1 ≤ k → k ≤ n → kth (map f (range_with_len 1 n)) k d ≡ f k
kth_row f n zero d low high = absurd (omega arith)
kth_row f n (suc k) d low high = get_or-map-range_with_len f 1 n k (suc k) d (omega arith) (omega arith)
