-- Tables like other tables: the same headers with new kinds in some columns, and rows with new values in some columns.
use Rattle.std.specs.Prelude.{◌≡◌, ℕ, ◌==◌, List, length, map, Option, Some, None, find, option_map, unwrap_or, slice_get}
use Rattle.std.specs.List.{enumerate_from}
use Rattle.std.specs.Option.{IsSomeAnd}
use Rattle.vpf_triplet.specs.declared.kinds.Kind.{Kind}
use Rattle.vpf_value.specs.Values.{Value, view}
use Rattle.vpf_value.specs.Inner.Fitting.{FitsCell}
use Rattle.vpf_head.specs.Head.{Head, Col}
use Rattle.vpf_table.specs.Grid.{Row}
use Rattle.vpf_write.specs.declared.revise.changes.NewKind.{NewKind}
use Rattle.vpf_write.specs.declared.revise.changes.NewCell.{NewCell}

-- a new value for the column at this position, from 0
pub record NewValue : Type 0 where
  pub column : ℕ
  pub value : Value

-- what a new cell says, and in which column
abbrev pub new_value : NewCell → NewValue
new_value new = record { column = new.column; value = view new.cell }

-- the new value of the column at this position, where there is one: of several the first
abbrev pub value_for : ℕ → List NewValue → Option Value
value_for c changes = option_map (λ new. new.value) (find (λ new. new.column == c) changes)

-- the new kind of the column at this position, where there is one: of several the first
abbrev pub kind_for : ℕ → List NewKind → Option Kind
kind_for c kinds = option_map (λ new. new.kind) (find (λ new. new.column == c) kinds)

-- the value at this position: the new one, or else the one that stands there
abbrev pub revised_value : List NewValue → ℕ → Value → Value
revised_value changes c value = unwrap_or (value_for c changes) value

-- the column at this position, with its new kind where there is one
abbrev pub revised_column : List NewKind → ℕ → Col → Col
revised_column kinds c column = record column { kind = unwrap_or (kind_for c kinds) column.kind }

-- the row with the new values in their columns, and with every other value as it is
abbrev pub revised : List NewValue → Row → Row
revised changes row = map (λ at. revised_value changes at.0 at.1) (enumerate_from 0 row)

-- the columns with their new kinds, and with everything else as it is
abbrev pub with_kinds : List NewKind → List Col → List Col
with_kinds kinds columns = map (λ at. revised_column kinds at.0 at.1) (enumerate_from 0 columns)

-- the header with the new kinds of its columns
abbrev pub head_with_kinds : List NewKind → Head → Head
head_with_kinds kinds h = record h { columns = with_kinds kinds h.columns }

-- there is such a column, and the new value fits it
abbrev pub FitsIn : List Col → NewValue → Type 0
FitsIn columns new = IsSomeAnd (slice_get columns new.column) (λ column. FitsCell column.kind column.count new.value)

-- There is a value for each column, and each that has no new one in its place fits its column.
pub record FitsElsewhere (changes : List NewValue) (columns : List Col) (row : Row) : Type 0 where
  pub width : length row ≡ length columns
  pub fits : (c : ℕ) (column : Col) (value : Value) → slice_get columns c ≡ Some column → slice_get row c ≡ Some value → value_for c changes ≡ None
      → FitsCell column.kind column.count value
