use Rattle.vpf_drill.proofs.WordLemmas.{asked}
use Rattle.vpf_drill.proofs.laws.requests_can_be_asked.Goals as goal

pub returns : goal.returns
returns c = asked
