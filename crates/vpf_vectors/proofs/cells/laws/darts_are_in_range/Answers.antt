use Rattle.vpf_vectors.proofs.cells.LawLemmas.{in_range}
use Rattle.vpf_vectors.proofs.cells.laws.darts_are_in_range.Goals as goal

pub returns : goal.returns
returns c = in_range
