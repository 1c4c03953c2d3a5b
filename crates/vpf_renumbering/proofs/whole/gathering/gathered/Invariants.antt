use Rattle.vpf_renumbering.specs.Inner.Whole.Gathering.{AreHomesTo}
use Rattle.vpf_renumbering.proofs.whole.gathering.gathered.Given as goal

abbrev pub invariant-loop-number : goal.invariant-loop-number
invariant-loop-number l = AreHomesTo l.coverage l.number 0 l.darts.items
