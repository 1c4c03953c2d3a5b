use Rattle.vpf_tiling.proofs.tileable.DecideLemmas as lemmas
use Rattle.vpf_tiling.proofs.tileable.laws.refusals_decide.Goals as goal

pub returns : goal.returns
returns c = lemmas.refusals_decide
