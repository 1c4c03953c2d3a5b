use Rattle.std.proofs.Common.{◌≡◌, ℕ, ◌+◌, List, ◌∷◌, arith}
use Rattle.std.proofs.lemmas.Bool.Decides.{nat_tests}
use Rattle.vpf_darts.specs.Cycles.{count_of}

pub count_of-more : (x : ℕ) (xs : List ℕ) → count_of x (x ∷ xs) ≡ 1 + count_of x xs
count_of-more x xs = grind (arith, nat_tests)
