use Rattle.vpf_cross.proofs.LawCopies.{flips_give_copies}
use Rattle.vpf_cross.proofs.laws.flips_give_copies.Goals as goal

pub returns : goal.returns
returns c = flips_give_copies c.homes_exist.ensures
