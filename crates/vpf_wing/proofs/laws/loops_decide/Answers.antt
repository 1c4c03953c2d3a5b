use Rattle.vpf_wing.proofs.LawLoops.{loops_decide}
use Rattle.vpf_wing.proofs.laws.loops_decide.Goals as goal

pub returns : goal.returns
returns c = loops_decide
