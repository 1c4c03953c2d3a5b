use Rattle.vpf_darts.proofs.ExistenceLemmas.{dart_lies_on_cycle}
use Rattle.vpf_darts.proofs.laws.darts_lie_on_cycles.Goals as goal

pub returns : goal.returns
returns c = dart_lies_on_cycle
