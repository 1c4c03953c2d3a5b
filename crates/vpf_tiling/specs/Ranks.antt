-- Numbers from 1 that pass a test: how many stand below one, and rows made of them.
use Rattle.std.specs.Prelude.{ℕ, suc, Bool, ◌==◌, List, [], ◌∷◌, length, filter, count_by}
use Rattle.std.specs.List.{range_with_len}
use Rattle.vpf_wing.specs.Walks.{least_after}

-- the numbers 1 to n, rising
abbrev pub up_to : ℕ → List ℕ
up_to n = range_with_len 1 n

-- how many of the numbers below this one pass
abbrev pub rank : (ℕ → Bool) → ℕ → ℕ
rank p k = count_by p (range_with_len 0 k)

-- rows with their numbers from k on: row by row, what is made of the number and of the item
abbrev pub numbered_from : {X R : Type 0} → ℕ → (ℕ → X → R) → List X → List R
numbered_from k row [] = []
numbered_from k row (x ∷ xs) = row k x ∷ numbered_from (suc k) row xs

-- the same with numbers from 1
abbrev pub numbered : {X R : Type 0} → (ℕ → X → R) → List X → List R
numbered row xs = numbered_from 1 row xs

-- x is the least dart of its cycle, where there are so many darts
abbrev pub is_least : (ℕ → ℕ) → ℕ → ℕ → Bool
is_least next n x = least_after next n x == x

-- of these darts, in their order, the least of each cycle
abbrev pub leasts : (ℕ → ℕ) → List ℕ → List ℕ
leasts next darts = filter (is_least next (length darts)) darts
