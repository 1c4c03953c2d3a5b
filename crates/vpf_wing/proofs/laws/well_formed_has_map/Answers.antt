use Rattle.vpf_wing.proofs.LawMap.{well_formed_has_map}
use Rattle.vpf_wing.proofs.laws.well_formed_has_map.Goals as goal

pub returns : goal.returns
returns c = well_formed_has_map
