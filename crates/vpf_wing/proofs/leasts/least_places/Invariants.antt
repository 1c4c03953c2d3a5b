use Rattle.std.proofs.Common.{length}
use Rattle.vpf_wing.specs.Inner.NextPlaces.{next_in}
use Rattle.vpf_wing.proofs.MarkLemmas.{AreMarked}
use Rattle.vpf_wing.proofs.leasts.least_places.Given as goal

abbrev pub invariant-loop-start : goal.invariant-loop-start
invariant-loop-start l = AreMarked (next_in l.nexts) (length l.nexts) l.start l.leasts.items
