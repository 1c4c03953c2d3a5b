-- Numbers that are kept for darts, one for each in the order of the darts.
use Rattle.std.specs.Prelude.{◌≡◌, ℕ, ◌+◌, ◌<◌, true, if◌then◌else◌, List, [], length, slice_index, slice_index_or}
use Rattle.vpf_wing.specs.Inner.DartLaws.{stands_in}
use Rattle.vpf_wing.specs.Inner.Kept.Kept.{place_among}

-- the number that is kept for a dart
abbrev pub kept_for : List ℕ → List ℕ → ℕ → ℕ
kept_for order numbers d = slice_index numbers (place_among order d)

-- a number is put for the darts of a list
pub record ArePut (order darts : List ℕ) (number : ℕ) (old new : List ℕ) : Type 0 where
  pub one_each : length new ≡ length old
  pub each : (d : ℕ) → stands_in d order ≡ true → kept_for order new d ≡ (if stands_in d darts then number else kept_for order old d)

-- for the darts of the first n lists the number of their list is kept, counted from 1
pub record AreByFirst (order : List ℕ) (lists : List (List ℕ)) (n : ℕ) (numbers : List ℕ) : Type 0 where
  pub one_each : length numbers ≡ length order
  pub each : (i d : ℕ) → i < n → stands_in d (slice_index_or lists i []) ≡ true → kept_for order numbers d ≡ i + 1

-- for each dart of lists the number of its list is kept, counted from 1
abbrev pub AreByList : List ℕ → List (List ℕ) → List ℕ → Type 0
AreByList order lists numbers = AreByFirst order lists (length lists) numbers
