use Rattle.std.proofs.Common.{◌≡◌, ◌+◌, ◌++◌, length}
use Rattle.vpf_value.specs.Values.{view}
use Rattle.vpf_theme.specs.Findings.{cells_of}
use Rattle.vpf_theme.specs.Entries.{AreRows}
use Rattle.vpf_select.specs.Selecting.{first_unlike}
use Rattle.vpf_select.proofs.selecting.tested.Given as goal

abbrev pub invariant-loop-row : goal.invariant-loop-row
invariant-loop-row g l = record {
  rows : AreRows (length l.table.rows) l.row-iterator.left;
  found : l.found.items ++ l.row-iterator.left ≡ l.fn.hits.left;
  other : first_unlike (view l.test.value) (cells_of l.table l.test.column) l.row-iterator.left ≡ first_unlike (view l.test.value) (cells_of l.table l.test.column) l.fn.hits.left;
  cost : l.steps + length l.row-iterator.left ≡ l.fn.steps + length l.fn.hits.left;
}
