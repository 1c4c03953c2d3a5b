use Rattle.vpf_head.proofs.Decided.{begins_read}
use Rattle.vpf_head.proofs.laws.spelled_is_read.Goals as goal

pub returns : goal.returns
returns c = λ bytes h text rest b. begins_read bytes h text rest b
