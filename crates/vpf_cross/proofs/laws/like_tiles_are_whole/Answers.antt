use Rattle.vpf_cross.proofs.LikeTiles.{like_are_whole}
use Rattle.vpf_cross.proofs.laws.like_tiles_are_whole.Goals as goal

pub returns : goal.returns
returns c = like_are_whole
