use Rattle.vpf_cross.proofs.LawCarried.{carried_decides}
use Rattle.vpf_cross.proofs.laws.carried_decides.Goals as goal

pub returns : goal.returns
returns c = carried_decides
