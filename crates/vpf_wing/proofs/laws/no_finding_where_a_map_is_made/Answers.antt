use Rattle.vpf_wing.proofs.MapLemmas.{is_map, makes_map, map_has_none}
use Rattle.vpf_wing.proofs.laws.no_finding_where_a_map_is_made.Goals as goal

pub returns-clause-exactly : goal.returns-clause-exactly
returns-clause-exactly c = λ columns cell edges. (makes_map columns cell edges, map_has_none columns cell edges)

pub returns-clause-map : goal.returns-clause-map
returns-clause-map c = is_map
