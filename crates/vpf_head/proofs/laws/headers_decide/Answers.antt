use Rattle.vpf_head.proofs.Decided.{decided}
use Rattle.vpf_head.proofs.laws.headers_decide.Goals as goal

pub returns : goal.returns
returns c = λ bytes fits. decided bytes fits
