use Rattle.vpf_value.proofs.FittingLaws.{kind_fits}
use Rattle.vpf_value.proofs.laws.spelled_fits.Goals as goal

pub returns : goal.returns
returns c = λ order kind count v bytes allowed h. (allowed, kind_fits order kind count v bytes h)
