use Rattle.vpf_theme_build.proofs.ScanLemmas.{built_index_agrees}
use Rattle.vpf_theme_build.proofs.laws.built_indexes_agree.Goals as goal

pub returns : goal.returns
returns c = built_index_agrees c.values_are_ordered.ensures.total c.values_are_ordered.ensures.equal
