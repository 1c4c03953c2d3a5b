use Rattle.vpf_cross.proofs.LawCopies.{copies_are_one}
use Rattle.vpf_cross.proofs.laws.copies_are_one.Goals as goal

pub returns : goal.returns
returns c = copies_are_one c.homes_exist.ensures
