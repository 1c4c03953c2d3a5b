use Rattle.vpf_vectors.proofs.CoverageLemmas.{says_grid}
use Rattle.vpf_vectors.proofs.laws.tables_say_grid.Goals as goal

pub returns : goal.returns
returns c = says_grid
