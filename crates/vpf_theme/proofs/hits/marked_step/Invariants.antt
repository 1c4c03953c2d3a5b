use Rattle.std.proofs.Common.{◌≡◌}
use Rattle.vpf_theme.specs.Inner.Views.{marked_left}
use Rattle.vpf_theme.proofs.hits.marked_step.Given as goal

abbrev pub invariant-loop-k : goal.invariant-loop-k
invariant-loop-k l = marked_left l.layout l.bytes l.extent l.k ≡ marked_left l.layout l.bytes l.extent l.next
