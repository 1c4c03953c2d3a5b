use Rattle.vpf_drill.proofs.worked.PlanLemmas.{serves}
use Rattle.vpf_drill.proofs.worked.UnfoundLemmas.{unfound}
use Rattle.vpf_drill.proofs.worked.laws.worked_is_unfound.Goals as goal

pub returns : goal.returns
returns c = record { unfound = unfound; serves = serves }
