use Rattle.std.proofs.Common.{◌≡◌, length}
use Rattle.vpf_head.specs.Fields.{after_spaces}
use Rattle.vpf_head.proofs.fields.after_spaces.Given as goal

abbrev pub invariant-loop-rest : goal.invariant-loop-rest
invariant-loop-rest l = after_spaces l.rest ≡ after_spaces l.item

abbrev pub decreases-loop-rest : goal.decreases-loop-rest
decreases-loop-rest l = length l.rest
