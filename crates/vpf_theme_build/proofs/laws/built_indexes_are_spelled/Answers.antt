use Rattle.vpf_theme_build.proofs.ColumnLemmas.{built_stands}
use Rattle.vpf_theme_build.proofs.laws.built_indexes_are_spelled.Goals as goal

pub returns : goal.returns
returns c = built_stands c.fitting_is_written.ensures.spelled c.fitting_is_written.ensures.width c.values_are_ordered.ensures.total
