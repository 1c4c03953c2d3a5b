-- Nothing speaks against the plan of the worked coverage.
use Rattle.std.proofs.Common.{refl}
use Rattle.vpf_darts.specs.Darts.{code}
use Rattle.vpf_wing.specs.Nexts.{tail, face, wing, next_dart}
use Rattle.vpf_drill.specs.Inner.Worked.Request.{WorkedServes}

pub serves : WorkedServes
unfolding code tail face wing next_dart
serves = refl
