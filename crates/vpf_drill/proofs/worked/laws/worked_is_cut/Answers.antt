use Rattle.vpf_drill.proofs.worked.SourceLemmas.{is_cut}
use Rattle.vpf_drill.proofs.worked.laws.worked_is_cut.Goals as goal

pub returns : goal.returns
returns c =
    is_cut c.worked_is_read.ensures.read c.worked_is_read.ensures.tables c.worked_is_unfound.ensures.unfound c.worked_is_unfound.ensures.serves
