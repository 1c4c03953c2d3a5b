use Rattle.std.proofs.Common.{◌≡◌, ◌+◌, ◌++◌, length, map}
use Rattle.std.specs.Prelude.{All}
use Rattle.vpf_value.specs.Values.{view}
use Rattle.vpf_table.specs.Grid.{Row}
use Rattle.vpf_theme.specs.Findings.{cells_of}
use Rattle.vpf_select.specs.Inner.Passing.{met_by}
use Rattle.vpf_select.proofs.ScanLemmas.{cell_in}
use Rattle.vpf_select.proofs.passing.rows_met.Given as goal

abbrev pub invariant-loop-row : goal.invariant-loop-row
invariant-loop-row g l = record {
  met : l.met.items ++ met_by (view l.test.value) (map (cell_in l.test.column) l.row-iterator) ≡ met_by (view l.test.value) (cells_of l.table l.test.column);
  count : length l.met.items + length l.row-iterator ≡ length l.table.rows;
  cost : l.steps ≡ l.fn.steps + length l.met.items;
  width : All (λ (row : Row). length row ≡ length l.table.head.columns) l.row-iterator;
}
