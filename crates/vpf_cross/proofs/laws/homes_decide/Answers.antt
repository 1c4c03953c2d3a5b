use Rattle.vpf_cross.proofs.LawHomes.{homes_decide}
use Rattle.vpf_cross.proofs.laws.homes_decide.Goals as goal

pub returns : goal.returns
returns c = homes_decide c.homes_exist.ensures
