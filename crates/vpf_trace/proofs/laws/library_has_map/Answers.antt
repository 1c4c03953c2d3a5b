use Rattle.vpf_trace.proofs.AgreeLemmas.{has_map, untiled_wings}
use Rattle.vpf_trace.proofs.laws.library_has_map.Goals as goal

pub returns-clause-map : goal.returns-clause-map
returns-clause-map c = has_map c.homes_exist.ensures

pub returns-clause-wings : goal.returns-clause-wings
returns-clause-wings c = untiled_wings
