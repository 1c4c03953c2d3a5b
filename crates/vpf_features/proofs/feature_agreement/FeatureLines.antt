-- Lines on a feature table find nothing exactly where it has its column of ids and its features are numbered from 1.
use Rattle.std.proofs.Common.{[], ◌≡◌, ℕ, zero, suc, ◌+◌, ◌<◌, ◌≤◌, pos, negsuc, Bool, true, false, List, ◌∷◌, length, get_or, Option, Some, None, refl, subst, arith}
use Rattle.std.specs.Prelude.{◌↔◌, ◌==◌, codes}
use Rattle.std.specs.List.{AllByRecursion}
use Rattle.std.proofs.lemmas.Bool.Decides.{nat_tests}
use Rattle.vpf_value.specs.Values.{Value, TextOf, Word4Of, Word8Of, NumberOf, DateOf, Nothing, TripletOf, WordsOf}
use Rattle.vpf_head.specs.Head.{Col}
use Rattle.vpf_table.specs.Grid.{Grid, Row}
use Rattle.vpf_findings.specs.Firsts.{◌or◌, first_of_rows, unless}
use Rattle.vpf_findings.specs.Inner.FirstLaws.{or-none_both}
use Rattle.vpf_prims.specs.declared.placing.TableAt.{TableAt}
use Rattle.vpf_prims.specs.Columns.{column_of, columns_finding, placed_line, role_line}
use Rattle.vpf_prims.specs.Lists.{kth}
use Rattle.vpf_prims.specs.Numbering.{IsRowOf}
use Rattle.vpf_prims.specs.Reading.{named_cell, natural_in}
use Rattle.vpf_prims.specs.References.{is_same, signed_in}
use Rattle.vpf_prims.specs.Roles.{Role, feature_roles, suits}
use Rattle.vpf_prims.specs.Suiting.{SuitsRole}
use Rattle.vpf_features.specs.Lines.{feature_at, feature_finding, feature_row_line}
use Rattle.vpf_features.specs.FeatureAgreement.Agreeing.{AreFeatures}
use Rattle.vpf_base.proofs.Booleans.{through}

-- two lines find nothing exactly where each finds nothing
pub or_decides : {F P Q : Type 0} (a b : Option F) → ((a ≡ None) ↔ P) → ((b ≡ None) ↔ Q) → ((a or b) ≡ None) ↔ (P × Q)
or_decides a b f g = (λ h. let none = or-none_both a b h in (f.0 none.0, g.0 none.1), λ h. rw (f.1 h.0) (g.1 h.1))

-- a line that is said unless a test passes
unless_decides : {F : Type 0} (test : Bool) (f : F) → (unless test f ≡ None) ↔ (test ≡ true)
unless_decides true f = (λ h. refl, λ h. refl)
unless_decides false f = (λ h. absurd cc, λ h. absurd cc)

-- ---- columns

placed_decides : (at : TableAt) (role : Role) (column : Option Col) → (placed_line at role column ≡ None) ↔ SuitsRole role column
placed_decides at role None = unless_decides role.optional _
placed_decides at role (Some column) = unless_decides (suits role.wants column.kind) _

columns_decide : (at : TableAt) (columns : List Col) (roles : List Role)
    → (columns_finding at columns roles ≡ None) ↔ AllByRecursion (λ (role : Role). SuitsRole role (column_of columns role.name)) roles
columns_decide at columns [] = (λ h. tt, λ h. refl)
columns_decide at columns (role ∷ roles) =
    or_decides (role_line at columns role) (columns_finding at columns roles) (placed_decides at role (column_of columns role.name))
    (columns_decide at columns roles)

-- ---- ids

-- a cell that is no number isn't k, where k isn't 0
none_at : (k : ℕ) → 1 ≤ k → ((0 == k) ≡ true) ↔ (natural_in Nothing ≡ Some k)
none_at k low = (λ h. absurd (grind (arith, nat_tests)), λ e. absurd cc)

number_at : (n k : ℕ) → ((n == k) ≡ true) ↔ (Some n ≡ Some k)
number_at n k = (λ h. let e : n ≡ k = grind (arith, nat_tests) in rw e refl, λ e. let same : n ≡ k = cc in grind (arith, nat_tests))

same_id : (cell : Value) (k : ℕ) → 1 ≤ k → (is_same (signed_in cell) k ≡ true) ↔ (natural_in cell ≡ Some k)
same_id (NumberOf (pos n)) k low = number_at n k
same_id (NumberOf (negsuc n)) k low = (λ h. absurd cc, λ e. absurd cc)
same_id (TextOf s) k low = none_at k low
same_id (Word4Of n) k low = none_at k low
same_id (Word8Of n) k low = none_at k low
same_id (DateOf s) k low = none_at k low
same_id Nothing k low = none_at k low
same_id (TripletOf t) k low = none_at k low
same_id (WordsOf w s) k low = none_at k low

-- the id of a row
abbrev id_in : List Col → Row → Option ℕ
id_in columns row = natural_in (named_cell columns (codes "id") row)

id_decides : (columns : List Col) (k : ℕ) (row : Row) → 1 ≤ k → (feature_row_line columns k row ≡ None) ↔ (id_in columns row ≡ Some k)
id_decides columns k row low =
    let cell = named_cell columns (codes "id") row in
    through (unless_decides (is_same (signed_in cell) k) _) (same_id cell k low)

-- ---- rows

-- the rows have ids that count from `from`
abbrev CountFrom : List Col → ℕ → List Row → Type 0
CountFrom columns from rows = (i : ℕ) → i < length rows → id_in columns (get_or rows i []) ≡ Some (from + i)

count_cons : (columns : List Col) (from : ℕ) (row : Row) (rows : List Row)
    → ((id_in columns row ≡ Some from) × CountFrom columns (suc from) rows) ↔ CountFrom columns from (row ∷ rows)
count_cons columns from row rows = (whole, parts)
  where
    whole : (id_in columns row ≡ Some from) × CountFrom columns (suc from) rows → CountFrom columns from (row ∷ rows)
    whole h zero l = let e : from + zero ≡ from = omega arith in rw e h.0
    whole h (suc i) l = let e : from + suc i ≡ suc from + i = omega arith in rw e (h.1 i (omega arith))

    parts : CountFrom columns from (row ∷ rows) → (id_in columns row ≡ Some from) × CountFrom columns (suc from) rows
    parts h = (
      let e : from + zero ≡ from = omega arith in subst (λ (k : ℕ). id_in columns row ≡ Some k) e (h zero (omega arith)),
      λ i l. let e : suc from + i ≡ from + suc i = omega arith in rw e (h (suc i) (omega arith)),
    )

count_decides : (columns : List Col) (from : ℕ) (rows : List Row) → 1 ≤ from
    → (first_of_rows (feature_row_line columns) from rows ≡ None) ↔ CountFrom columns from rows
count_decides columns from [] low = (λ h i l. absurd (omega arith), λ h. refl)
count_decides columns from (row ∷ rows) low =
    through
    (or_decides (feature_row_line columns from row) (first_of_rows (feature_row_line columns) (suc from) rows) (id_decides columns from row low)
    (count_decides columns (suc from) rows (omega arith)))
    (count_cons columns from row rows)

-- row k has the id k
abbrev AreNumbered : List Col → List Row → Type 0
AreNumbered columns rows = (k : ℕ) → IsRowOf (length rows) k → id_in columns (kth rows k []) ≡ Some k

-- counted from 0, or by numbers from 1
numbered : (columns : List Col) (rows : List Row) → CountFrom columns 1 rows ↔ AreNumbered columns rows
numbered columns rows = (by_number, by_place)
  where
    by_number : CountFrom columns 1 rows → AreNumbered columns rows
    by_number h zero l = absurd (omega (arith, l.0))
    by_number h (suc i) l = let e : suc i ≡ 1 + i = omega arith in rw e (h i (omega (arith, l.1)))

    by_place : AreNumbered columns rows → CountFrom columns 1 rows
    by_place h i l = let e : 1 + i ≡ suc i = omega arith in rw e (h (suc i) (omega arith, omega arith))

-- the lines on a feature table
pub feature_decides : (grid : Grid) → (feature_finding grid ≡ None) ↔ AreFeatures grid
feature_decides grid =
    let columns = grid.head.columns in
    through
    (or_decides (columns_finding feature_at columns feature_roles) (first_of_rows (feature_row_line columns) 1 grid.rows)
    (columns_decide feature_at columns feature_roles)
    (through (count_decides columns 1 grid.rows (omega arith)) (numbered columns grid.rows)))
    (λ h. record { columns = h.0; ids = h.1 }, λ h. (h.columns, h.ids))
