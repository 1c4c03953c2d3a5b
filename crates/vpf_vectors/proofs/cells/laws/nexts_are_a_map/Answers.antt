use Rattle.vpf_vectors.proofs.cells.LawLemmas.{fit}
use Rattle.vpf_vectors.proofs.cells.MapLemmas.{grid_is_map}
use Rattle.vpf_vectors.proofs.cells.laws.nexts_are_a_map.Goals as goal

pub returns-clause-fit : goal.returns-clause-fit
returns-clause-fit c = fit

pub returns-clause-map : goal.returns-clause-map
returns-clause-map c = grid_is_map
