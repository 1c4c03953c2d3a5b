use Rattle.vpf_drill.proofs.worked.AloneLemmas.{stands_alone}
use Rattle.vpf_drill.proofs.worked.LackLemmas.{lacks_themes}
use Rattle.vpf_drill.proofs.worked.laws.worked_is_alone.Goals as goal

pub returns : goal.returns
returns c = record { alone = stands_alone; lacks = lacks_themes }
