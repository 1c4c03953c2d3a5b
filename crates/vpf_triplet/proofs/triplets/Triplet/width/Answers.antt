use Rattle.std.proofs.Common.{rules}
use Rattle.vpf_triplet.specs.Inner.CanonicalLaws.{length-canonical}
use Rattle.vpf_triplet.proofs.triplets.Triplet.width.Goals as goal

pub returns-clause-value : goal.returns-clause-value
returns-clause-value c = λ o. rw (length-canonical o c.args.self.now) (search rules)
