use Rattle.std.proofs.Common.{◌≡◌, drop, max}
use Rattle.vpf_drill.specs.Counting.{longest}
use Rattle.vpf_drill.proofs.counting.longest.Given as goal

abbrev pub invariant-loop-i : goal.invariant-loop-i
invariant-loop-i l = max l.most (longest (drop l.i l.listing)) ≡ longest l.listing
