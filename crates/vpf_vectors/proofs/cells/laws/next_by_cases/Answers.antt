use Rattle.vpf_vectors.proofs.cells.CaseLemmas.{next-by_cases}
use Rattle.vpf_vectors.proofs.cells.laws.next_by_cases.Goals as goal

pub returns : goal.returns
returns c = next-by_cases
