-- A list of numbers for each number, by pairs of the number and one that is in its list.
use Rattle.std.specs.Prelude.{◌≡◌, ℕ, ◌+◌, ◌-◌, ◌<◌, ◌≤◌, Bool, true, ◌==◌, ◌&&◌, List, [], length}
use Rattle.std.specs.Prelude.{filter, map, slice_index, slice_index_or, slice_range}
use Rattle.std.specs.List.{list_any, range_with_len}
use Rattle.std.specs.Ordering.{nat_cmp, ordering_then}
use Rattle.std.specs.declared.cmp.Ordering.{Ordering}

-- the list of a number, none past the last
abbrev pub list_at : List (List ℕ) → ℕ → List ℕ
list_at lists k = slice_index_or lists k []

-- for each number up to a count those of the numbers from 1 to the most, rising, that pass its test
unfoldable pub lists_by : (count most : ℕ) → (ℕ → ℕ → Bool) → List (List ℕ)
lists_by count most test = map (λ k. filter (test k) (range_with_len 1 most)) (range_with_len 0 (count + 1))

-- the number i is in the list of k
abbrev pub is_pair : ℕ → ℕ → ℕ × ℕ → Bool
is_pair k i pair = (pair.0 == k) && (pair.1 == i)

abbrev pub is_paired : List (ℕ × ℕ) → ℕ → ℕ → Bool
is_paired pairs k i = list_any (is_pair k i) pairs

-- what pass a test of two numbers are two from 1 on, up to these
abbrev pub AreNumbersWithin : (ℕ → ℕ → Bool) → (count most : ℕ) → Type 0
AreNumbersWithin test count most = (k i : ℕ) → test k i ≡ true → (1 ≤ k) × (k ≤ count) × (1 ≤ i) × (i ≤ most)

-- the numbers in the lists are from 1 to the most
abbrev pub StandWithin : List (ℕ × ℕ) → ℕ → Type 0
StandWithin pairs most = (k i : ℕ) → is_paired pairs k i ≡ true → (1 ≤ i) × (i ≤ most)

-- pairs by their first numbers, and those of one first number by their second
abbrev pub pair_cmp : ℕ × ℕ → ℕ × ℕ → Ordering
pair_cmp x y = ordering_then (nat_cmp x.0 y.0) (nat_cmp x.1 y.1)

-- the same pairs, as often as may be
abbrev pub Keeps : List (ℕ × ℕ) → List (ℕ × ℕ) → Type 0
Keeps old new = (k i : ℕ) → is_paired new k i ≡ is_paired old k i

-- places in a list of this length that don't fall
abbrev pub AreStarts : List ℕ → ℕ → Type 0
AreStarts starts len = (k : ℕ) → k + 1 < length starts → (slice_index starts k ≤ slice_index starts (k + 1)) × (slice_index starts (k + 1) ≤ len)

-- the lists of the numbers from 0 on, each of which begins in all numbers where its start is, and ends at the next start
abbrev pub lists_from : (starts all : List ℕ) → List (List ℕ)
lists_from starts all = map (λ k. slice_range all (slice_index starts k) (slice_index starts (k + 1))) (range_with_len 0 (length starts - 1))
