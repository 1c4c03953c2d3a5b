-- Where a thematic index and its column disagree, and the first such place.
use Rattle.std.specs.Prelude.{ℕ, suc, ◌+◌, ◌-◌, pos, Bool, ◌&&◌, not, ◌==◌, nat_le, if◌then◌else◌, List, [], ◌∷◌, length, take, map, find, slice_index_or, slice_get, Option, Some, None, option_map, option_and_then}
use Rattle.std.specs.List.{list_any, range_with_len}
use Rattle.vpf_triplet.specs.declared.kinds.Count.TheVariants.{Fixed}
use Rattle.vpf_triplet.specs.Kinds.{same_kind, is_fixed}
use Rattle.vpf_value.specs.Values.{Value, Nothing}
use Rattle.vpf_head.specs.Head.{Col}
use Rattle.vpf_findings.specs.declared.finding.TableName.TheVariants as tables
use Rattle.vpf_findings.specs.declared.finding.SeenWord.TheVariants as words
use Rattle.vpf_findings.specs.Findings.{Sight, NumberSeen, CellSeen, KindSeen, WordSeen, Disagreement}
use Rattle.vpf_findings.specs.Firsts.{◌or◌, first_over}
use Rattle.vpf_table.specs.Grid.{Row, Grid}
use Rattle.vpf_theme.specs.Ordering.{same_value}
use Rattle.vpf_theme.specs.Entries.{Entry, Theme}

-- what is read past the last entry
abbrev pub no_entry : Entry
no_entry = record { value = Nothing; rows = [] }

-- entry i, counted from 0
abbrev pub entry_at : List Entry → ℕ → Entry
entry_at entries i = slice_index_or entries i no_entry

-- the cells of a column, row by row
abbrev pub cells_of : Grid → ℕ → List Value
cells_of grid c = map (λ (row : Row). slice_index_or row c Nothing) grid.rows

-- the cell of a row, whose number counts from 1
abbrev pub cell_of : List Value → ℕ → Value
cell_of cells row = slice_index_or cells (row - 1) Nothing

-- a finding at an entry of a thematic index, counted from 1, or at 0 for the index as a whole
abbrev pub at : ℕ → List ℕ → Sight → Sight → Disagreement
at row column found wanted = record { rule = 1; tile = 0; table = tables.Theme; file = 0; row = row; column = column; found = found; wanted = wanted }

-- kind or count isn't the column's
abbrev pub kind_line : Theme → Col → Option Disagreement
kind_line t column = if same_kind t.kind column.kind && is_fixed t.count column.count then None else Some (at 0 column.name (KindSeen t.kind (Fixed t.count)) (KindSeen column.kind column.count))

-- the number of rows isn't the table's
abbrev pub row_count_line : Theme → Col → ℕ → Option Disagreement
row_count_line t column n = if t.rows == n then None else Some (at 0 column.name (NumberSeen (pos t.rows)) (NumberSeen (pos n)))

-- the index isn't one of this column of a table of n rows
abbrev pub fits_line : Theme → Col → ℕ → Option Disagreement
fits_line t column n = kind_line t column or row_count_line t column n

-- an entry lists the row
abbrev pub stands : List Entry → ℕ → Bool
stands entries row = list_any (λ (e : Entry). list_any (λ r. r == row) e.rows) entries

-- a row of the table stands in no entry
abbrev pub missing_line : Theme → Col → ℕ → Option Disagreement
missing_line t column n = option_map (λ row. at 0 column.name (WordSeen words.Absent) (NumberSeen (pos row))) (find (λ row. not (stands t.entries row)) (range_with_len 1 n))

-- the place of the first of the entries that has the value, counted from 0
abbrev pub entry_place : List Entry → Value → Option ℕ
entry_place [] v = None
entry_place (e ∷ es) v = if same_value e.value v then Some 0 else option_map suc (entry_place es v)

-- an entry before entry i has its value
abbrev pub repeated_line : Theme → Col → ℕ → Option Disagreement
repeated_line t column i = option_map (λ j. at (i + 1) column.name (CellSeen column.kind (entry_at t.entries i).value) (NumberSeen (pos (j + 1)))) (entry_place (take i t.entries) (entry_at t.entries i).value)

-- a row of entry i has another cell
abbrev pub other_line : Col → List Value → ℕ → Entry → Option Disagreement
other_line column cells i e = option_map (λ row. at (i + 1) column.name (CellSeen column.kind e.value) (CellSeen column.kind (cell_of cells row))) (find (λ row. not (same_value (cell_of cells row) e.value)) e.rows)

-- the first of the rows that isn't above the one before, with that one; `before` stands before the first
abbrev pub first_fall : ℕ → List ℕ → Option (ℕ × ℕ)
first_fall before [] = None
first_fall before (row ∷ rows) = if nat_le row before then Some (row, before) else first_fall row rows

-- a row of entry i isn't above the one before; the first row is, since rows count from 1
abbrev pub fall_line : Col → ℕ → Entry → Option Disagreement
fall_line column i e = option_map (λ (fall : ℕ × ℕ). at (i + 1) column.name (NumberSeen (pos fall.0)) (NumberSeen (pos fall.1))) (first_fall 0 e.rows)

-- the lines on entry i, counted from 0
abbrev pub lines_at : Theme → Col → List Value → ℕ → Option Disagreement
lines_at t column cells i = repeated_line t column i or other_line column cells i (entry_at t.entries i) or fall_line column i (entry_at t.entries i)

-- the lines on the entries, one by one
abbrev pub entries_finding : Theme → Col → List Value → Option Disagreement
entries_finding t column cells = first_over (lines_at t column cells) 0 (length t.entries)

-- the first place where the index and the column disagree: kind and count, the number of rows, rows in no entry, and then entry by entry
unfoldable pub first_finding : Theme → Col → List Value → Option Disagreement
first_finding t column cells = fits_line t column (length cells) or missing_line t column (length cells) or entries_finding t column cells

-- what is said of the column at this position
abbrev pub of_column : Grid → ℕ → (Col → Option Disagreement) → Option Disagreement
of_column grid c line = option_and_then line (slice_get grid.head.columns c)
