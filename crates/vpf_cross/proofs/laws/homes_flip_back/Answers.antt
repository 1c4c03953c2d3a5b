use Rattle.vpf_cross.proofs.LawHomes.{homes_flip_back}
use Rattle.vpf_cross.proofs.laws.homes_flip_back.Goals as goal

pub returns : goal.returns
returns c = homes_flip_back
