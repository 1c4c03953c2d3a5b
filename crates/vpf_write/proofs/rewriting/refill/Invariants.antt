use Rattle.std.proofs.Common.{◌≡◌, ◌++◌, map}
use Rattle.vpf_value.specs.Values.{view}
use Rattle.vpf_write.proofs.rewriting.refill.Given as goal

abbrev pub invariant-loop-cell : goal.invariant-loop-cell
invariant-loop-cell l = map view l.list.items ++ l.cell-iterator ≡ l.fn.cells
