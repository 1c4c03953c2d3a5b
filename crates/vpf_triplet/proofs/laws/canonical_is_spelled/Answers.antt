use Rattle.vpf_triplet.specs.Canonical.{canonical}
use Rattle.vpf_triplet.proofs.Canonicals.{spelled_small}
use Rattle.vpf_triplet.specs.Inner.CanonicalLaws.{canonical_spelled, shortest}
use Rattle.vpf_triplet.specs.Inner.SpelledLaws.{triplet_again}
use Rattle.vpf_triplet.proofs.laws.canonical_is_spelled.Goals as goal

pub returns-clause-spelled : goal.returns-clause-spelled
returns-clause-spelled c = canonical_spelled

pub returns-clause-read_again : goal.returns-clause-read_again
returns-clause-read_again c = λ o t rest h. triplet_again o t (canonical o t) rest (canonical_spelled o t h)

pub returns-clause-shortest : goal.returns-clause-shortest
returns-clause-shortest c = shortest

pub returns-clause-small : goal.returns-clause-small
returns-clause-small c = spelled_small
