use Rattle.vpf_theme.proofs.Decided.{theme_decided}
use Rattle.vpf_theme.proofs.laws.themes_decide.Goals as goal

pub returns : goal.returns
returns c = theme_decided c.spelled_is_read.ensures c.read_is_spelled.ensures c.fixed_cells.ensures
