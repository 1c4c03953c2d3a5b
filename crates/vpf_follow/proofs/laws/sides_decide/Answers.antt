use Rattle.vpf_follow.proofs.LawSides.{sides_decide}
use Rattle.vpf_follow.proofs.laws.sides_decide.Goals as goal

pub returns : goal.returns
returns c = sides_decide
