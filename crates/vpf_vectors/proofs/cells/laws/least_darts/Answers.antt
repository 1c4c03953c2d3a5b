use Rattle.vpf_vectors.proofs.cells.LawLemmas.{rings, firsts}
use Rattle.vpf_vectors.proofs.cells.laws.least_darts.Goals as goal

pub returns-clause-rings : goal.returns-clause-rings
returns-clause-rings c = rings

pub returns-clause-nodes : goal.returns-clause-nodes
returns-clause-nodes c = firsts
