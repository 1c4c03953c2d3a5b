use Rattle.vpf_cross.proofs.LawMap.{agreeing_has_map}
use Rattle.vpf_cross.proofs.laws.agreeing_has_map.Goals as goal

pub returns : goal.returns
returns c = agreeing_has_map c.homes_exist.ensures
