use Rattle.std.proofs.Common.{◌≡◌, ◌++◌}
use Rattle.vpf_write.specs.Inner.Cuts.{joined}
use Rattle.vpf_table_trials.proofs.lists.cells_of.Given as goal

abbrev pub invariant-loop-row : goal.invariant-loop-row
invariant-loop-row l = l.cells ++ joined l.row-iterator ≡ joined l.table.rows
