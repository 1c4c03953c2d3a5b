-- Items of lists by their numbers, from 1.
use Rattle.std.specs.Prelude.{ℕ, suc, Bool, List, [], ◌∷◌, slice_index_or, if◌then◌else◌}

-- item k of a list, counted from 1; d where there is none
abbrev pub kth : {X : Type 0} → List X → ℕ → X → X
kth xs k d = slice_index_or (d ∷ xs) k d

-- the number, counted from k, of the first item that passes, 0 where none does
abbrev pub first_from : {X : Type 0} → ℕ → (X → Bool) → List X → ℕ
first_from k p [] = 0
first_from k p (x ∷ xs) = if p x then k else first_from (suc k) p xs

-- the number of the first item that passes, counted from 1, 0 where none does
abbrev pub first_item : {X : Type 0} → (X → Bool) → List X → ℕ
first_item p xs = first_from 1 p xs
