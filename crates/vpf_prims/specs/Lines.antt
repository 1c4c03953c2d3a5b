-- What disagrees in the ids and references of the rows of a table.
use Rattle.std.specs.Prelude.{ℕ, pos, not, ◌==◌, List, length, Option}
use Rattle.vpf_value.specs.Values.{Value}
use Rattle.vpf_table.specs.Head.{Col}
use Rattle.vpf_table.specs.Grid.{Row}
use Rattle.vpf_table.specs.Findings.{NumberSeen, CellSeen, RangeSeen, Disagreement}
use Rattle.vpf_table.specs.Firsts.{unless}
use Rattle.vpf_prims.specs.declared.placing.TableAt.{TableAt}
use Rattle.vpf_prims.specs.Columns.{RoleAt, id_column, in_table}
use Rattle.vpf_prims.specs.References.{reference_in, signed_in, cell_at, is_same, is_from}

-- the id of row k isn't k
abbrev pub id_line : TableAt → ℕ → RoleAt → Row → Option Disagreement
id_line at k column row = let id = signed_in (cell_at row column.place) in unless (is_same id k) (in_table at 1 k column.name (NumberSeen id) (NumberSeen (pos k)))

-- the number of a reference in a cell of row k is absent, or isn't one of low to last
abbrev pub cell_range_line : TableAt → (low last k : ℕ) → RoleAt → Value → Option Disagreement
cell_range_line at low last k column cell =
    unless (is_from low last (reference_in cell).id) (in_table at 1 k column.name (CellSeen column.kind cell) (RangeSeen low last))

-- the same in a row
abbrev pub range_line : TableAt → (low last k : ℕ) → RoleAt → Row → Option Disagreement
range_line at low last k column row = cell_range_line at low last k column (cell_at row column.place)

-- there are no rows where there have to be some, so many at the most
abbrev pub no_rows_line : TableAt → List Col → List Row → ℕ → Option Disagreement
no_rows_line at columns rows most = unless (not (length rows == 0)) (in_table at 1 0 (id_column columns).name (NumberSeen (pos 0)) (RangeSeen 1 most))
