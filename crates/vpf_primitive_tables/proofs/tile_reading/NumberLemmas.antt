-- Rows with their numbers, made of the rows of other tables; and numbers of rows that are there.
use Rattle.std.proofs.Common.{ℕ, zero, suc, ◌+◌, ◌≤◌, Bool, filter, arith}
use Rattle.std.specs.List.{AllByRecursion, range_with_len}
use Rattle.vpf_prims.specs.Numbering.{IsRowOf}
use Rattle.vpf_tiling.specs.Ranks.{up_to}
use Rattle.vpf_primitive_tables.specs.Inner.TileReading.OwnLaws.{all_passing}

-- numbers that follow one another are rows, if the last one is
range_within : (a n m : ℕ) → 1 ≤ a → a + n ≤ suc m → AllByRecursion (IsRowOf m) (range_with_len a n)
range_within a zero m low high = tt
range_within a (suc n) m low high = ((low, omega arith), range_within (a + 1) n m (omega arith) (omega arith))

-- the numbers up to this one are rows
pub rows_up_to : (n : ℕ) → AllByRecursion (IsRowOf n) (up_to n)
rows_up_to n = range_within 1 n n (omega arith) (omega arith)

-- those that pass a test are too
pub rows_passing : (p : ℕ → Bool) (n : ℕ) → AllByRecursion (IsRowOf n) (filter p (up_to n))
rows_passing p n = all_passing (IsRowOf n) p (up_to n) (rows_up_to n)
