use Rattle.vpf_follow.proofs.LawLoops.{tile_loops_decide}
use Rattle.vpf_follow.proofs.laws.tile_loops_decide.Goals as goal

pub returns : goal.returns
returns c = tile_loops_decide
