-- A loop over the rows of a list by their numbers that stops at the first finding.
use Rattle.std.proofs.Common.{◌≡◌, ℕ, zero, suc, ◌+◌, ◌<◌, ◌≤◌, Option, Some, None, List, [], ◌∷◌, length, map, take, drop, ◌++◌, get_or, add-one, refl, ap, ◌∙◌, arith}
use Rattle.std.proofs.lemmas.List.{length-map}
use Rattle.vpf_findings.specs.Firsts.{◌or◌, first_of_rows}
use Rattle.vpf_prims.specs.Lists.{kth}

rows_drop : {F R : Type 0} (lines : ℕ → R → Option F) (k i : ℕ) (rows : List R) (d : R) → i < length rows
    → first_of_rows lines k (drop i rows) ≡ (lines k (get_or rows i d) or first_of_rows lines (suc k) (drop (suc i) rows))
rows_drop lines k zero [] d h = absurd (omega arith)
rows_drop lines k (suc i) [] d h = absurd (omega arith)
rows_drop lines k zero (r ∷ rows) d h = refl
rows_drop lines k (suc i) (r ∷ rows) d h = rows_drop lines k i rows d (omega arith)

-- what a loop over a list that is at row i from 0 has left to say, where the rows before say nothing
abbrev pub from_row : {F R : Type 0} → (ℕ → R → Option F) → ℕ → List R → Option F
from_row lines i rows = first_of_rows lines (i + 1) (drop i rows)

-- a row with no finding is passed
pub pass_row : {F R : Type 0} (lines : ℕ → R → Option F) (i : ℕ) (rows : List R) (d : R) → i < length rows → lines (i + 1) (get_or rows i d) ≡ None
    → from_row lines (i + 1) rows ≡ from_row lines i rows
pass_row lines i rows d h none = rw (rows_drop lines (i + 1) i rows d h, none) (simp add-one)

-- a finding of a row is the first of those that are left
pub stop_row : {F R : Type 0} (lines : ℕ → R → Option F) (i : ℕ) (rows : List R) (d : R) (f : F) → i < length rows → lines (i + 1) (get_or rows i d) ≡ Some f
    → from_row lines i rows ≡ Some f
stop_row lines i rows d f h some = rw (rows_drop lines (i + 1) i rows d h, some) refl

end_from : {F R : Type 0} (lines : ℕ → R → Option F) (k i : ℕ) (rows : List R) → length rows ≤ i → first_of_rows lines k (drop i rows) ≡ None
end_from lines k zero [] h = refl
end_from lines k (suc i) [] h = refl
end_from lines k zero (r ∷ rows) h = absurd (omega arith)
end_from lines k (suc i) (r ∷ rows) h = end_from lines k i rows (omega arith)

-- no row is left
pub end_row : {F R : Type 0} (lines : ℕ → R → Option F) (i : ℕ) (rows : List R) → length rows ≤ i → from_row lines i rows ≡ None
end_row lines i rows h = end_from lines (i + 1) i rows h

at : {R S : Type 0} (read : S → R) (rows : List S) (i : ℕ) (d : S) → get_or (map read rows) i (read d) ≡ read (get_or rows i d)
at read [] i d = refl
at read (r ∷ rows) zero d = refl
at read (r ∷ rows) (suc i) d = at read rows i d

-- item i + 1 of what a list is read as
pub item_map : {R S : Type 0} (read : S → R) (rows : List S) (i : ℕ) (d : S) → i < length rows → get_or (map read rows) i (read d) ≡ read (kth rows (i + 1) d)
item_map read rows i d h = simp add-one (at read rows i d)

-- the same of a list that another is read as
pub pass_item : {F R S : Type 0} (lines : ℕ → R → Option F) (read : S → R) (rows : List S) (i : ℕ) (d : S) → i < length rows
    → lines (i + 1) (read (kth rows (i + 1) d)) ≡ None
    → from_row lines (i + 1) (map read rows) ≡ from_row lines i (map read rows)
pass_item lines read rows i d h none =
    pass_row lines i (map read rows) (read d) (omega (arith, length-map rows read)) (ap (lines (i + 1)) (item_map read rows i d h) ∙ none)

pub stop_item : {F R S : Type 0} (lines : ℕ → R → Option F) (read : S → R) (rows : List S) (i : ℕ) (d : S) (f : F) → i < length rows
    → lines (i + 1) (read (kth rows (i + 1) d)) ≡ Some f
    → from_row lines i (map read rows) ≡ Some f
stop_item lines read rows i d f h some =
    stop_row lines i (map read rows) (read d) f (omega (arith, length-map rows read)) (ap (lines (i + 1)) (item_map read rows i d h) ∙ some)

take_row : {R : Type 0} (rows : List R) (i : ℕ) (d : R) → i < length rows → take (i + 1) rows ≡ take i rows ++ get_or rows i d ∷ []
take_row [] i d h = absurd (omega arith)
take_row (r ∷ rows) zero d h = refl
take_row (r ∷ rows) (suc i) d h = let e : suc i + 1 ≡ suc (i + 1) = omega arith in rw e (ap (λ v. r ∷ v) (take_row rows i d (omega arith)))

-- one more row is read
pub take_more : {R S : Type 0} (read : S → R) (rows : List S) (i : ℕ) (d : S) → i < length rows
    → take (i + 1) (map read rows) ≡ take i (map read rows) ++ read (kth rows (i + 1) d) ∷ []
take_more read rows i d h = take_row (map read rows) i (read d) (omega (arith, length-map rows read)) ∙ ap (λ v. take i (map read rows) ++ v ∷ []) (item_map read rows i d h)
