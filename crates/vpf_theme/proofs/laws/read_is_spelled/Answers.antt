use Rattle.vpf_theme.proofs.SpellingLemmas.{theme_read}
use Rattle.vpf_theme.proofs.laws.read_is_spelled.Goals as goal

pub returns : goal.returns
returns c = theme_read c.read_is_spelled.ensures c.fixed_cells.ensures
