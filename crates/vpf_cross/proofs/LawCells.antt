-- Two rows of cells, one for each column, differ in a column exactly where they aren't the same; and what rows carry has so many cells.
use Rattle.std.proofs.Common.{◌≡◌, ℕ, zero, suc, ◌≤◌, refl, ap, ◌∙◌, subst, inl, inr, arith, None, List, [], ◌∷◌, length, map}
use Rattle.std.specs.List.{AllByRecursion}
use Rattle.std.proofs.Math.ListN.{get_or-map}
use Rattle.std.proofs.lemmas.Bool.{cases_Bool}
use Rattle.std.proofs.lemmas.List.{length-map, get_or_default}
use Rattle.vpf_value.specs.Values.{Value}
use Rattle.vpf_head.specs.Head.{Col}
use Rattle.vpf_table.specs.Grid.{Row, Grid}
use Rattle.vpf_findings.specs.Findings.{CellSeen}
use Rattle.vpf_findings.specs.Firsts.{unless}
use Rattle.vpf_findings.specs.Inner.FirstLaws.{or-none_both}
use Rattle.vpf_prims.specs.Lists.{kth}
use Rattle.vpf_prims.specs.Roles.{Role}
use Rattle.vpf_prims.specs.Reading.{carried_in, has_role, rows_said}
use Rattle.vpf_prims.specs.Suiting.{carried_columns}
use Rattle.vpf_theme.specs.Ordering.{same_value}
use Rattle.vpf_theme.specs.Inner.KeyLaws.{Decides-same_value, same_yes}
use Rattle.vpf_follow.specs.Inner.TileLaws.{unless-none, unless-true, or-silent}
use Rattle.vpf_cross.specs.Carrying.{Difference, first_difference}

abbrev difference_at : Col → Value → Value → Difference
difference_at c x y = record { column = c.name; here = CellSeen c.kind x; there = CellSeen c.kind y }

-- where there is no difference, the cells are the same
pub none_differ : (cs : List Col) (xs ys : List Value) → length xs ≡ length cs → length ys ≡ length cs → first_difference cs xs ys ≡ None → xs ≡ ys
none_differ [] [] [] h k none = refl
none_differ [] [] (y ∷ ys) h k none = absurd (omega arith)
none_differ [] (x ∷ xs) ys h k none = absurd (omega arith)
none_differ (c ∷ cs) [] ys h k none = absurd (omega arith)
none_differ (c ∷ cs) (x ∷ xs) [] h k none = absurd (omega arith)
none_differ (c ∷ cs) (x ∷ xs) (y ∷ ys) h k none =
    let both = or-none_both (unless (same_value x y) (difference_at c x y)) (first_difference cs xs ys) none in
    let here : x ≡ y = (Decides-same_value x y).0 (unless-none (same_value x y) (difference_at c x y) both.0) in
    let rest : xs ≡ ys = none_differ cs xs ys (omega arith) (omega arith) both.1 in
    ap (λ z. z ∷ xs) here ∙ ap (λ zs. y ∷ zs) rest

-- the same cells don't differ
pub same_cells : (cs : List Col) (xs : List Value) → first_difference cs xs xs ≡ None
same_cells [] xs = refl
same_cells (c ∷ cs) [] = refl
same_cells (c ∷ cs) (x ∷ xs) =
    or-silent (unless (same_value x x) (difference_at c x x)) (first_difference cs xs xs)
    (unless-true (same_value x x) (difference_at c x x) (same_yes x x refl)) (same_cells cs xs)

pub none_for_same : (cs : List Col) (xs ys : List Value) → xs ≡ ys → first_difference cs xs ys ≡ None
none_for_same cs xs ys e = subst (λ z. first_difference cs xs z ≡ None) e (same_cells cs xs)

-- a row with a cell for each column carries a cell for each column without a role
pub carries : (roles : List Role) (columns : List Col) (row : Row) → length row ≡ length columns
    → length (carried_in roles columns row) ≡ length (carried_columns roles columns)
carries roles [] row h = refl
carries roles (c ∷ cs) [] h = absurd (omega arith)
carries roles (c ∷ cs) (x ∷ row) h =
    let rest : length (carried_in roles cs row) ≡ length (carried_columns roles cs) = carries roles cs row (omega arith) in
    elim (cases_Bool (has_role roles c)) [
      | inl t ↦ rw t rest
      | inr f ↦ rw f (ap suc rest)
    ]

-- each row of a whole table is
pub row_filled : (P : Row → Type 0) (rows : List Row) (k : ℕ) → AllByRecursion P rows → 1 ≤ k → k ≤ length rows → P (kth rows k [])
row_filled P rows zero all low high = absurd (omega arith)
row_filled P [] (suc k) all low high = absurd (omega arith)
row_filled P (r ∷ rows) (suc zero) all low high = all.0
row_filled P (r ∷ rows) (suc (suc k)) all low high = row_filled P rows (suc k) all.1 (omega arith) (omega arith)

-- what row k of a table says
pub row_said : {R : Type 0} (read : List Col → Row → R) (grid : Grid) (d : R) (k : ℕ) → 1 ≤ k → k ≤ length grid.rows
    → kth (rows_said read grid) k d ≡ read grid.head.columns (kth grid.rows k [])
row_said read grid d zero low high = absurd (omega arith)
row_said read grid d (suc i) low high =
    let n : length (map (read grid.head.columns) grid.rows) ≡ length grid.rows = length-map grid.rows (read grid.head.columns) in
    get_or_default (map (read grid.head.columns) grid.rows) i d (read grid.head.columns []) (omega arith) ∙ get_or-map (read grid.head.columns) grid.rows i []
