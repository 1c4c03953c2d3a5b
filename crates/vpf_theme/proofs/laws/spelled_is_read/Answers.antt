use Rattle.vpf_theme.proofs.SpellingLemmas.{theme_again}
use Rattle.vpf_theme.proofs.laws.spelled_is_read.Goals as goal

pub returns : goal.returns
returns c = theme_again c.spelled_is_read.ensures c.fixed_cells.ensures
