use Rattle.std.proofs.Common.{length, eqb}
use Rattle.std.specs.List.{count_by}
use Rattle.vpf_wing.specs.Inner.NextPlaces.{next_in}
use Rattle.vpf_wing.proofs.MarkLemmas.{IsWalked}
use Rattle.vpf_wing.proofs.leasts.mark_cycle.Given as goal

abbrev pub invariant-loop-leasts : goal.invariant-loop-leasts
invariant-loop-leasts l = IsWalked (next_in l.nexts) (length l.nexts) l.start l.fn.leasts l.leasts l.at

abbrev pub decreases-loop-leasts : goal.decreases-loop-leasts
decreases-loop-leasts l = count_by (λ x. eqb x (length l.nexts)) l.leasts
