use Rattle.vpf_prims.specs.Libraries.{library_of}
use Rattle.vpf_library_commands.proofs.TotalLemmas.{AreBefore}
use Rattle.vpf_library_commands.proofs.totals.totals_of.Given as goal

abbrev pub invariant-loop-t : goal.invariant-loop-t
invariant-loop-t l = AreBefore (library_of l.coverage) l.t l.totals
