use Rattle.vpf_follow.specs.Inner.FollowLaws.{follow_home}
use Rattle.vpf_follow.proofs.laws.followers_are_home.Goals as goal

pub returns : goal.returns
returns c = follow_home
