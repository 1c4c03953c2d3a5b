use Rattle.vpf_trace.specs.Inner.Gathering.{AreGatheredTo}
use Rattle.vpf_trace.proofs.gathering.kept_darts.Given as goal

abbrev pub invariant-loop-number : goal.invariant-loop-number
invariant-loop-number l = AreGatheredTo l.coverage l.number 0 l.darts.items
