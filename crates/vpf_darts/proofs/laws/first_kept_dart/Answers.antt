use Rattle.vpf_darts.proofs.WithoutLemmas.{passes_over}
use Rattle.vpf_darts.proofs.laws.first_kept_dart.Goals as goal

pub returns : goal.returns
returns c = passes_over
