-- The first finding, put together.
use Rattle.std.proofs.Common.{◌≡◌, ℕ, nat_eq, cond, pos, Bool, true, false, length, Option, Some, None, Ok, Err, Result, refl, sym, ◌∙◌}
use Rattle.std.specs.Prelude.{slice_get, slice_index_or, OnOk}
use Rattle.std.specs.Option.{option_or}
use Rattle.std.proofs.lemmas.Bool.{eqb-true}
use Rattle.std.proofs.lemmas.List.{length-map}
use Rattle.vpf_value.specs.Values.{Nothing}
use Rattle.vpf_head.specs.Head.{Col}
use Rattle.vpf_findings.specs.Findings.{Disagreement, NumberSeen}
use Rattle.vpf_table.specs.Grid.{Row, Grid}
use Rattle.vpf_findings.specs.declared.errors.FindError.{FindError}
use Rattle.vpf_findings.specs.declared.errors.FindError.TheVariants as errors
use Rattle.vpf_findings.specs.Inner.FirstLaws.{or-none_both}
use Rattle.vpf_theme.specs.Entries.{Theme}
use Rattle.vpf_findings.specs.Firsts.{Tells}
use Rattle.vpf_theme.specs.Findings.{at, cells_of, entries_finding, first_finding, fits_line, kind_line, row_count_line, missing_line, of_column}

pub tells_or : (V : Type 0) (e : FindError) (a b : Option Disagreement) → Tells {V = V} (Err e) a → Tells {V = V} (Err e) (option_or a b)
tells_or V (errors.Finding f) a b is = rw is refl
tells_or V errors.NoMemory a b is = tt

same_rows : (b : Bool) (d : Disagreement) (m n : ℕ) → nat_eq m n ≡ b → cond {A = Option Disagreement} b None (Some d) ≡ None → m ≡ n
same_rows true d m n e h = eqb-true m n e
same_rows false d m n e h = absurd (cc h)

pub fits_rows : (t : Theme) (column : Col) (n : ℕ) → fits_line t column n ≡ None → t.rows ≡ n
fits_rows t column n h =
    let r = or-none_both (kind_line t column) (row_count_line t column n) h in
    same_rows (nat_eq t.rows n) (at 0 column.name (NumberSeen (pos t.rows)) (NumberSeen (pos n))) t.rows n refl r.1

pub length-cells : (grid : Grid) (c : ℕ) → length (cells_of grid c) ≡ length grid.rows
length-cells grid c = length-map grid.rows (λ (row : Row). slice_index_or row c Nothing)

-- where the index is one of the column, what is left to find
pub agree_left : (t : Theme) (grid : Grid) (c : ℕ) (column : Col) → slice_get grid.head.columns c ≡ Some column → fits_line t column (length grid.rows) ≡ None
    → of_column grid c (λ (k : Col). first_finding t k (cells_of grid c)) ≡ option_or (missing_line t column t.rows) (entries_finding t column (cells_of grid c))
unfolding first_finding
agree_left t grid c column is fits =
    let n = length-cells grid c in
    let r = fits_rows t column (length grid.rows) fits in
    rw (is, n, fits, r) refl

pub agree_entries : (t : Theme) (grid : Grid) (c : ℕ) (column : Col) → slice_get grid.head.columns c ≡ Some column → fits_line t column (length grid.rows) ≡ None → missing_line t column t.rows ≡ None
    → of_column grid c (λ (k : Col). first_finding t k (cells_of grid c)) ≡ entries_finding t column (cells_of grid c)
agree_entries t grid c column is fits missing = agree_left t grid c column is fits ∙ rw missing refl

pub fits_at : (t : Theme) (grid : Grid) (c : ℕ) (column : Col) → slice_get grid.head.columns c ≡ Some column → None ≡ of_column grid c (λ (k : Col). fits_line t k (length grid.rows)) → fits_line t column (length grid.rows) ≡ None
fits_at t grid c column is h = let k = rw is at h in sym k

agrees_ok : (r : Option Disagreement) (t : Theme) (grid : Grid) (c : ℕ) → r ≡ of_column grid c (λ (k : Col). first_finding t k (cells_of grid c)) → r ≡ None → (column : Col) → slice_get grid.head.columns c ≡ Some column → first_finding t column (cells_of grid c) ≡ None
agrees_ok r t grid c e n column is = let f = rw is at e in sym f ∙ n

-- a call that answered Ok found nothing in the column
pub nothing_found : (V : Type 0) (r : Result V FindError) (t : Theme) (grid : Grid) (c : ℕ) → Tells r (of_column grid c (λ (k : Col). first_finding t k (cells_of grid c))) → OnOk r ((column : Col) → slice_get grid.head.columns c ≡ Some column → first_finding t column (cells_of grid c) ≡ None)
nothing_found V (Ok v) t grid c h = agrees_ok (of_column grid c (λ (k : Col). first_finding t k (cells_of grid c))) t grid c refl h
nothing_found V (Err e) t grid c h = tt
