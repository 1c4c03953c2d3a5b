use Rattle.std.proofs.Common.{◌≡◌, ◌++◌}
use Rattle.vpf_table_trials.proofs.lists.push_cells.Given as goal

abbrev pub invariant-loop-cell : goal.invariant-loop-cell
invariant-loop-cell l = l.list ++ l.cell-iterator ≡ l.fn.list ++ l.fn.cells
