use Rattle.vpf_vectors.proofs.cells.ListingLemmas.{faces_listed}
use Rattle.vpf_vectors.proofs.cells.laws.faces_are_listed.Goals as goal

pub returns : goal.returns
returns c = faces_listed
