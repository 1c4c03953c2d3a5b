-- The rows that meet a test, by a thematic index or by the plain scan.
use Rattle.std.specs.Prelude.{◌≡◌, ℕ, ◌+◌, ◌-◌, ◌*◌, ◌^◌, ◌≤◌, true, false, not, List, length, find, slice_get, Option, Some, None, Result, Ok, Err}
use Rattle.vpf_base.specs.Results.{Meets}
use Rattle.vpf_value.specs.Values.{Value}
use Rattle.vpf_value.specs.Inner.Fitting.{FitsCell}
use Rattle.vpf_head.specs.Head.{Col}
use Rattle.vpf_table.specs.Grid.{Grid}
use Rattle.vpf_theme.specs.Ordering.{same_value}
use Rattle.vpf_theme.specs.Entries.{Theme, found_in}
use Rattle.vpf_theme.specs.Findings.{cell_of, fits_line, of_column}
use Rattle.vpf_theme.specs.Agreeing.{listed, scan_of}
use Rattle.vpf_theme.specs.Inner.Searching.{compared_for}
use Rattle.vpf_select.specs.declared.selecting.SelectError.{SelectError}
use Rattle.vpf_select.specs.declared.selecting.SelectError.TheVariants as errors

-- the first of the rows whose cell isn't the value
abbrev pub first_unlike : Value → List Value → List ℕ → Option ℕ
first_unlike v cells rows = find (λ row. not (same_value (cell_of cells row) v)) rows

-- the rows, unless one of them fails the test
abbrev pub unless_unlike : List ℕ → Option ℕ → Result (List ℕ) ℕ
unless_unlike rows None = Ok rows
unless_unlike rows (Some row) = Err row

-- the rows that are listed, each tested in the column, or the first that fails
abbrev pub tested : Value → List Value → List ℕ → Result (List ℕ) ℕ
tested v cells rows = unless_unlike rows (first_unlike v cells rows)

-- the rows that an index lists for a value
abbrev pub rows_for : Theme → Value → List ℕ
rows_for t v = listed (found_in v t.entries)

-- what is selected: what the index lists, where there is one, and else the plain scan
unfoldable pub selected : Option Theme → Value → List Value → Result (List ℕ) ℕ
selected None v cells = Ok (scan_of v cells)
selected (Some t) v cells = tested v cells (rows_for t v)

-- the row whose cell isn't the value; want of memory has none
abbrev pub row_refused : SelectError → Option ℕ
row_refused (errors.Disagrees row) = Some row
row_refused errors.NoMemory = None

-- Ok with the rows, and else the row whose cell isn't the value
abbrev pub Selects : {V : Type 0} → (V → List ℕ) → Result V SelectError → Result (List ℕ) ℕ → Type 0
Selects view result rows = Meets view row_refused result rows

-- an index that is given is one of this column of the table
abbrev pub IsOwn : Option Theme → Grid → ℕ → Type 0
IsOwn None grid c = Unit {0}
IsOwn (Some t) grid c = of_column grid c (λ column. fits_line t column (length grid.rows)) ≡ None

-- the value fits the column at this position
abbrev pub FitsColumn : Grid → ℕ → Value → Type 0
FitsColumn grid c v = (column : Col) → slice_get grid.head.columns c ≡ Some column → FitsCell column.kind column.count v

-- how many rows are looked at, at most: those that the index lists, or all
abbrev pub most_looks : Option Theme → Value → Grid → ℕ
most_looks None v grid = length grid.rows
most_looks (Some t) v grid = length (rows_for t v)

-- How many entries are compared: none without an index, and else those of a search for the value: no more than one by halves
-- needs in a sorted directory, and else at most each.
abbrev pub Compares : Option Theme → Value → ℕ → ℕ → Type 0
Compares None v old new = new ≡ old
Compares (Some t) v old new = (new ≡ old + compared_for v t) × (old ≤ new) × (t.sorted ≡ true → 2 ^ (new - old) ≤ 2 * length t.entries + 1) × (t.sorted ≡ false → new ≤ old + length t.entries)

-- a row that is refused is one of so many
abbrev pub IsRefused : ℕ → SelectError → Type 0
IsRefused n (errors.Disagrees row) = (1 ≤ row) × (row ≤ n)
IsRefused n errors.NoMemory = Unit {0}

abbrev pub RefusesRow : {V : Type 0} → ℕ → Result V SelectError → Type 0
RefusesRow n (Ok v) = Unit {0}
RefusesRow n (Err error) = IsRefused n error
