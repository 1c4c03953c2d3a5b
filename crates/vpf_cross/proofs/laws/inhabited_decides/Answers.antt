use Rattle.vpf_cross.proofs.LawInhabited.{inhabited_decides}
use Rattle.vpf_cross.proofs.laws.inhabited_decides.Goals as goal

pub returns : goal.returns
returns c = inhabited_decides
