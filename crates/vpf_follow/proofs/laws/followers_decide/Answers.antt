use Rattle.vpf_follow.proofs.LawFollows.{followers_decide}
use Rattle.vpf_follow.proofs.laws.followers_decide.Goals as goal

pub returns : goal.returns
returns c = followers_decide
