-- An index of the column, and what is selected with it.
use Rattle.std.proofs.Common.{[], ◌≡◌, ℕ, zero, suc, ◌+◌, ◌-◌, ◌<◌, Bool, true, false, cond, List, ◌∷◌, ◌++◌, length, Option, Some, None, Ok, append_assoc, refl, sym, ap, subst, ◌∙◌, arith}
use Rattle.std.specs.Prelude.{slice_get, option_and_then, nat_eq}
use Rattle.std.specs.Option.{option_or}
use Rattle.std.proofs.lemmas.Bool.{eqb-true}
use Rattle.std.proofs.lemmas.List.{length-append}
use Rattle.vpf_triplet.specs.Kinds.{same_kind, is_fixed}
use Rattle.vpf_triplet.specs.Inner.KindLaws.{kinds_same, counts_same}
use Rattle.vpf_base.proofs.Booleans.{both}
use Rattle.vpf_triplet.specs.declared.kinds.Kind.{Kind}
use Rattle.vpf_triplet.specs.declared.kinds.Count.{Count}
use Rattle.vpf_triplet.specs.declared.kinds.Count.TheVariants.{Fixed}
use Rattle.vpf_value.specs.Values.{Value}
use Rattle.vpf_value.specs.Inner.Fitting.{FitsCell}
use Rattle.vpf_head.specs.Head.{Col}
use Rattle.vpf_findings.specs.Findings.{Disagreement}
use Rattle.vpf_table.specs.Grid.{Grid}
use Rattle.vpf_theme.specs.Ordering.{same_value}
use Rattle.vpf_theme.specs.Entries.{Theme, found_in}
use Rattle.vpf_theme.specs.Findings.{cell_of, cells_of, kind_line, row_count_line, fits_line}
use Rattle.vpf_theme.specs.Agreeing.{AgreesAt, AgreesWithColumn, listed, scan_from, scan_of}
use Rattle.vpf_select.specs.Selecting.{IsOwn, FitsColumn, first_unlike, selected}

-- ---- an index of the column

no_line : (t : Bool) (d : Disagreement) → cond {A = Option Disagreement} t None (Some d) ≡ None → t ≡ true
no_line true d h = refl
no_line false d h = absurd (cc h)

or_none : {A : Type 0} (a b : Option A) → option_or a b ≡ None → (a ≡ None) × (b ≡ None)
or_none None b h = (refl, h)
or_none (Some x) b h = absurd (cc h)

-- kind, count and number of rows are the column's and the table's
record Fitting (t : Theme) (column : Col) (n : ℕ) : Type 0 where
  kind : t.kind ≡ column.kind
  count : column.count ≡ Fixed t.count
  rows : t.rows ≡ n

fitting : (t : Theme) (column : Col) (n : ℕ) → fits_line t column n ≡ None → Fitting t column n
fitting t column n h =
    let o = or_none (kind_line t column) (row_count_line t column n) h in
    let k = both (same_kind t.kind column.kind) (is_fixed t.count column.count) (no_line _ _ o.0) in
    let r = no_line (nat_eq t.rows n) _ o.1 in
    record { kind = kinds_same t.kind column.kind k.0; count = counts_same t.count column.count k.1; rows = eqb-true t.rows n r }

there : {A : Type 0} (xs : List A) (k : ℕ) → k < length xs → (x : A) × (slice_get xs k ≡ Some x)
there [] k h = absurd (omega arith)
there (x ∷ xs) zero h = (x, refl)
there (x ∷ xs) (suc k) h = there xs k (omega arith)

own_fitting : (t : Theme) (grid : Grid) (c : ℕ) (column : Col) → slice_get grid.head.columns c ≡ Some column → IsOwn (Some t) grid c → Fitting t column (length grid.rows)
own_fitting t grid c column at own = fitting t column (length grid.rows) (sym (ap (option_and_then (λ (x : Col). fits_line t x (length grid.rows))) at) ∙ own)

pub own_value : (t : Theme) (grid : Grid) (c : ℕ) (v : Value) → c < length grid.head.columns → IsOwn (Some t) grid c → FitsColumn grid c v → FitsCell t.kind (Fixed t.count) v
own_value t grid c v h own fits =
    let column = there grid.head.columns c h in
    let f = own_fitting t grid c column.0 column.1 own in
    subst (λ (n : Count). FitsCell t.kind n v) f.count (subst (λ (k : Kind). FitsCell k column.0.count v) (sym f.kind) (fits column.0 column.1))

pub own_rows : (t : Theme) (grid : Grid) (c : ℕ) → c < length grid.head.columns → IsOwn (Some t) grid c → t.rows ≡ length grid.rows
own_rows t grid c h own = let column = there grid.head.columns c h in (own_fitting t grid c column.0 column.1 own).rows

-- ---- the law

at_length : (pre cells : List Value) (cell : Value) → cell_of (pre ++ cell ∷ cells) (length pre + 1) ≡ cell
at_length [] cells cell = refl
at_length (x ∷ pre) cells cell = at_more x pre cells cell (at_length pre cells cell)
  where
    at_more : (x : Value) (pre cells : List Value) (cell : Value) → cell_of (pre ++ cell ∷ cells) (length pre + 1) ≡ cell → cell_of (x ∷ pre ++ cell ∷ cells) (suc (length pre) + 1) ≡ cell
    at_more x pre cells cell h = let e : length pre + 1 - 1 ≡ length pre = omega arith in let f : suc (length pre) + 1 - 1 ≡ suc (length pre) = omega arith in let d = rw e at h in rw f d

scan_case : (b : Bool) (v : Value) (all : List Value) (k : ℕ) (rest : List ℕ) → (b ≡ true → same_value (cell_of all k) v ≡ true) → first_unlike v all rest ≡ None → first_unlike v all (cond b (k ∷ rest) rest) ≡ None
scan_case true v all k rest h done = rw (h refl) done
scan_case false v all k rest h done = done

scan_passes : (v : Value) (pre cells : List Value) → first_unlike v (pre ++ cells) (scan_from (length pre + 1) v cells) ≡ None
scan_passes v pre [] = refl
scan_passes v pre (cell ∷ cells) =
    let next = scan_passes v (pre ++ cell ∷ []) cells in
    let n : length (pre ++ cell ∷ []) ≡ length pre + 1 = length-append pre (cell ∷ []) in
    let d = rw (n, append_assoc) at next in
    scan_case (same_value cell v) v (pre ++ cell ∷ cells) (length pre + 1) (scan_from (length pre + 1 + 1) v cells) (λ t. ap (λ (x : Value). same_value x v) (at_length pre cells cell) ∙ t) d

abbrev ListedIsScan : Type 0
ListedIsScan = (t : Theme) (column : Col) (cells : List Value) (v : Value) → AgreesWithColumn t column cells → listed (found_in v t.entries) ≡ scan_of v cells

pub agreeing_scan : ListedIsScan → (t : Theme) (column : Col) (cells : List Value) (v : Value) → AgreesWithColumn t column cells → selected (Some t) v cells ≡ Ok (scan_of v cells)
unfolding selected
agreeing_scan law t column cells v a = rw (law t column cells v a, scan_passes v [] cells) refl

pub agreeing_scan_at : ListedIsScan → (t : Theme) (grid : Grid) (c : ℕ) (v : Value) → c < length grid.head.columns → AgreesAt t grid c → selected (Some t) v (cells_of grid c) ≡ Ok (scan_of v (cells_of grid c))
agreeing_scan_at law t grid c v h a = let column = there grid.head.columns c h in agreeing_scan law t column.0 (cells_of grid c) v (a column.0 column.1)
