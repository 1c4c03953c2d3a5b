use Rattle.vpf_wing.proofs.LawDecide.{cycles_decide}
use Rattle.vpf_wing.proofs.laws.cycles_decide.Goals as goal

pub returns : goal.returns
returns c = cycles_decide
