use Rattle.std.proofs.Common.{◌≡◌, ◌+◌, ◌++◌, length, map}
use Rattle.std.specs.Prelude.{All}
use Rattle.vpf_value.specs.Values.{view}
use Rattle.vpf_table.specs.Grid.{Row}
use Rattle.vpf_theme.specs.Findings.{cells_of}
use Rattle.vpf_theme.specs.Agreeing.{scan_from, scan_of}
use Rattle.vpf_select.proofs.ScanLemmas.{cell_in}
use Rattle.vpf_select.proofs.scanning.scan.Given as goal

abbrev pub invariant-loop-row : goal.invariant-loop-row
invariant-loop-row g l = record {
  found : l.found.items ++ scan_from (l.k + 1) (view l.test.value) (map (cell_in l.test.column) l.row-iterator) ≡ scan_of (view l.test.value) (cells_of l.table l.test.column);
  count : l.k + length l.row-iterator ≡ length l.table.rows;
  cost : l.steps ≡ l.fn.steps + l.k;
  width : All (λ (row : Row). length row ≡ length l.table.head.columns) l.row-iterator;
}
