use Rattle.vpf_renumbering.specs.Inner.Whole.Gathering.{AreHomesTo}
use Rattle.vpf_renumbering.proofs.whole.gathering.put_tile.Given as goal

abbrev pub invariant-loop-k : goal.invariant-loop-k
invariant-loop-k l = AreHomesTo l.coverage l.number l.k l.darts.items
