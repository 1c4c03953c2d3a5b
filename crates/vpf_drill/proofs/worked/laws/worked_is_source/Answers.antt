use Rattle.vpf_drill.proofs.worked.SourceLemmas.{is_source}
use Rattle.vpf_drill.proofs.worked.laws.worked_is_source.Goals as goal

pub returns : goal.returns
returns c =
    is_source c.sources_are_cut.ensures.only c.requests_have_names.ensures c.worked_is_read.ensures.asked c.worked_is_held.ensures.bytes c.worked_is_cut.ensures
    c.worked_is_alone.ensures.alone c.worked_is_alone.ensures.lacks
