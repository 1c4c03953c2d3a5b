use Rattle.vpf_theme.proofs.EntryFaults.{theme_faults, theme_refused}
use Rattle.vpf_theme.proofs.laws.refusals_are_first_faults.Goals as goal

pub returns-clause-only : goal.returns-clause-only
returns-clause-only c = theme_faults c.read_is_spelled.ensures c.fixed_cells.ensures

pub returns-clause-each : goal.returns-clause-each
returns-clause-each c = theme_refused c.spelled_is_read.ensures c.fixed_cells.ensures
