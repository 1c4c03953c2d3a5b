-- Rows that are made and put one after another.
use Rattle.std.proofs.Common.{[], ◌≡◌, ℕ, zero, suc, ◌+◌, ◌<◌, ◌≤◌, Bool, List, ◌∷◌, length, map, get_or, refl, ap, arith}
use Rattle.std.specs.Prelude.{All, filter}
use Rattle.std.specs.List.{AllByRecursion, range_with_len}
use Rattle.std.proofs.lemmas.List.Elements.{All-filter, All-from_recursion, All-get_or}
use Rattle.vpf_prims.specs.Lists.{kth}
use Rattle.vpf_prims.specs.Numbering.{IsRowOf}
use Rattle.vpf_tiling.specs.Ranks.{numbered, numbered_from, up_to}

-- what is so of all rows is so of each
pub kth_all : {X : Type 0} (P : X → Type 0) (xs : List X) (k : ℕ) (d : X) → IsRowOf (length xs) k → All P xs → P (kth xs k d)
kth_all P xs zero d row all = absurd (omega (arith, row.0))
kth_all P xs (suc k) d row all = let high : suc k ≤ length xs = row.1 in All-get_or P xs k d (omega arith) all

-- what is made of the item at a place
from_at : {X R : Type 0} (n : ℕ) (f : ℕ → X → R) (xs : List X) (k : ℕ) (d : X) (e : R) → k < length xs → get_or (numbered_from n f xs) k e ≡ f (n + k) (get_or xs k d)
from_at n f [] k d e h = absurd (omega arith)
from_at n f (x ∷ xs) zero d e h = let s : n + 0 ≡ n = omega arith in rw s refl
from_at n f (x ∷ xs) (suc k) d e h =
    let s : n + suc k ≡ suc n + k = omega arith in
    rw s (from_at (suc n) f xs k d e (omega arith))

pub numbered_at : {X R : Type 0} (f : ℕ → X → R) (xs : List X) (k : ℕ) (d : X) (e : R) → k < length xs → get_or (numbered f xs) k e ≡ f (k + 1) (get_or xs k d)
numbered_at {X} {R} f xs k d e h = let s : 1 + k ≡ k + 1 = omega arith in rw s at (from_at {X = X} {R = R} 1 f xs k d e h)

-- what is made of the numbers alone
from_numbers : (X R : Type 0) (n : ℕ) (g : ℕ → R) (xs : List X) → numbered_from n (λ k x. g k) xs ≡ map g (range_with_len n (length xs))
from_numbers X R n g [] = refl
from_numbers X R n g (x ∷ xs) = let e : suc n ≡ n + 1 = omega arith in rw e (ap (λ (rows : List R). g n ∷ rows) (from_numbers X R (n + 1) g xs))

pub made_of_numbers : {X R : Type 0} (g : ℕ → R) (xs : List X) → numbered (λ k x. g k) xs ≡ map g (range_with_len 1 (length xs))
made_of_numbers {X} {R} g xs = from_numbers X R 1 g xs

-- what is made of the items alone
from_items : (X R : Type 0) (n : ℕ) (g : X → R) (xs : List X) → numbered_from n (λ k x. g x) xs ≡ map g xs
from_items X R n g [] = refl
from_items X R n g (x ∷ xs) = ap (λ (rows : List R). g x ∷ rows) (from_items X R (suc n) g xs)

pub made_of_items : {X R : Type 0} (g : X → R) (xs : List X) → numbered (λ k x. g x) xs ≡ map g xs
made_of_items {X} {R} g xs = from_items X R 1 g xs

-- numbers from 1 to the last, of which some are left, are those of rows
range_rows : (a n m : ℕ) → 1 ≤ a → a + n ≤ m + 1 → AllByRecursion (IsRowOf m) (range_with_len a n)
range_rows a zero m low high = tt
range_rows a (suc n) m low high = ((low, (let top : a ≤ m = omega arith in top)), range_rows (a + 1) n m (omega arith) (omega arith))

pub rows_within : (p : ℕ → Bool) (n : ℕ) → All (IsRowOf n) (filter p (up_to n))
rows_within p n = All-filter p (IsRowOf n) (up_to n) (All-from_recursion (IsRowOf n) (up_to n) (range_rows 1 n n (omega arith) (omega arith)))
