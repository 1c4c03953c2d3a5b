use Rattle.vpf_follow.proofs.LawHomes.{homes_exist}
use Rattle.vpf_follow.proofs.laws.homes_exist.Goals as goal

pub returns : goal.returns
returns c = homes_exist c.darts_lie_on_cycles.ensures
