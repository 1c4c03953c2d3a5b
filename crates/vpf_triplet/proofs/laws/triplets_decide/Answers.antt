use Rattle.vpf_triplet.proofs.Decided.{decided}
use Rattle.vpf_triplet.proofs.laws.triplets_decide.Goals as goal

pub returns : goal.returns
returns c = λ order bytes fits. decided order bytes fits
