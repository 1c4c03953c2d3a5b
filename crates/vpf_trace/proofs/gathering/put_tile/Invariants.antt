use Rattle.vpf_trace.specs.Inner.Gathering.{AreGatheredTo}
use Rattle.vpf_trace.proofs.gathering.put_tile.Given as goal

abbrev pub invariant-loop-k : goal.invariant-loop-k
invariant-loop-k l = AreGatheredTo l.coverage l.number l.k l.darts.items
