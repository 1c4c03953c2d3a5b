use Rattle.vpf_cross.proofs.LawRounds.{rounds_decide}
use Rattle.vpf_cross.proofs.laws.rounds_decide.Goals as goal

pub returns : goal.returns
returns c = rounds_decide c.darts_lie_on_cycles.ensures c.homes_exist.ensures
