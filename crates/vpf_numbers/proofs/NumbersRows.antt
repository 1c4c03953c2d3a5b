-- Lines on the rows of a table find nothing exactly where each row, by its number, says what it is to say.
use Rattle.std.proofs.Common.{◌≡◌, ℕ, zero, suc, ◌+◌, ◌<◌, ◌≤◌, Option, None, List, [], ◌∷◌, length, map, get_or, refl, subst, arith}
use Rattle.std.specs.Prelude.{◌↔◌}
use Rattle.vpf_findings.specs.Firsts.{first_of_rows}
use Rattle.vpf_prims.specs.Lists.{kth}
use Rattle.vpf_prims.specs.Numbering.{IsRowOf}
use Rattle.vpf_numbers.proofs.NumbersLines.{through, or_decides}

-- of each row of a list, by its number counted from `from`
abbrev EachFrom : {X : Type 0} → (Is : ℕ → X → Type 0) → ℕ → List X → X → Type 0
EachFrom Is from xs absent = (i : ℕ) → i < length xs → Is (from + i) (get_or xs i absent)

-- the first row and the others
each_cons : {X : Type 0} (Is : ℕ → X → Type 0) (from : ℕ) (x : X) (xs : List X) (absent : X)
    → (Is from x × EachFrom Is (suc from) xs absent) ↔ EachFrom Is from (x ∷ xs) absent
each_cons {X} Is from x xs absent = (all, parts)
  where
    all : Is from x × EachFrom Is (suc from) xs absent → EachFrom Is from (x ∷ xs) absent
    all h zero l = let e : from ≡ from + zero = omega arith in subst (λ (k : ℕ). Is k x) e h.0
    all h (suc i) l = let e : suc from + i ≡ from + suc i = omega arith in subst (λ (k : ℕ). Is k (get_or xs i absent)) e (h.1 i (omega arith))

    parts : EachFrom Is from (x ∷ xs) absent → Is from x × EachFrom Is (suc from) xs absent
    parts h =
        let e : from + zero ≡ from = omega arith in (
          subst (λ (k : ℕ). Is k x) e (h zero (omega arith)),
          λ i l. let f : from + suc i ≡ suc from + i = omega arith in subst (λ (k : ℕ). Is k (get_or xs i absent)) f (h (suc i) (omega arith)),
        )

rows_from : {F R X : Type 0} (lines : ℕ → R → Option F) (read : R → X) (Is : ℕ → X → Type 0) (absent : X)
    → ((k : ℕ) (row : R) → 1 ≤ k → (lines k row ≡ None) ↔ Is k (read row))
    → (from : ℕ) (rows : List R) → 1 ≤ from → (first_of_rows lines from rows ≡ None) ↔ EachFrom Is from (map read rows) absent
rows_from lines read Is absent decides from [] low = (λ h i l. absurd (omega arith), λ h. refl)
rows_from lines read Is absent decides from (row ∷ rows) low =
    through
    (or_decides (lines from row) (first_of_rows lines (suc from) rows) (decides from row low)
    (rows_from lines read Is absent decides (suc from) rows (omega arith)))
    (each_cons Is from (read row) (map read rows) absent)

-- counted from 0 or by numbers from 1
numbered : {X : Type 0} (Is : ℕ → X → Type 0) (xs : List X) (absent : X)
    → EachFrom Is 1 xs absent ↔ ((k : ℕ) → IsRowOf (length xs) k → Is k (kth xs k absent))
numbered {X} Is xs absent = (by_number, by_place)
  where
    by_number : EachFrom Is 1 xs absent → (k : ℕ) → IsRowOf (length xs) k → Is k (kth xs k absent)
    by_number h zero l = absurd (omega (arith, l.0))
    by_number h (suc i) l = let e : 1 + i ≡ suc i = omega arith in subst (λ (k : ℕ). Is k (get_or xs i absent)) e (h i (omega (arith, l.1)))

    by_place : ((k : ℕ) → IsRowOf (length xs) k → Is k (kth xs k absent)) → EachFrom Is 1 xs absent
    by_place h i l = let e : suc i ≡ 1 + i = omega arith in subst (λ (k : ℕ). Is k (get_or xs i absent)) e (h (suc i) (omega arith, omega arith))

-- the lines on all rows of a table
pub rows_decide : {F R X : Type 0} (lines : ℕ → R → Option F) (read : R → X) (Is : ℕ → X → Type 0) (absent : X) (rows : List R)
    → ((k : ℕ) (row : R) → 1 ≤ k → (lines k row ≡ None) ↔ Is k (read row))
    → (first_of_rows lines 1 rows ≡ None) ↔ ((k : ℕ) → IsRowOf (length (map read rows)) k → Is k (kth (map read rows) k absent))
rows_decide lines read Is absent rows decides =
    through (rows_from lines read Is absent decides 1 rows (omega arith)) (numbered Is (map read rows) absent)
