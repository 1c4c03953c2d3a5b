use Rattle.std.proofs.Common.{subst}
use Rattle.vpf_head.specs.Inner.Soundness.{IsSound}
use Rattle.vpf_head.proofs.headers.Header.len.Goals as goal

pub returns-clause-sound : goal.returns-clause-sound
returns-clause-sound c = subst IsSound c.self.view_is c.self.invariant.sound
