use Rattle.vpf_value.proofs.FittingLaws.{fitting_spelled}
use Rattle.vpf_value.proofs.laws.fitting_is_spelled.Goals as goal

pub returns : goal.returns
returns c = fitting_spelled
