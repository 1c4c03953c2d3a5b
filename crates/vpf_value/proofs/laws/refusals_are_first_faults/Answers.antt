use Rattle.vpf_value.proofs.CellFaults.{cell_faults, cell_refused}
use Rattle.vpf_value.proofs.laws.refusals_are_first_faults.Goals as goal

pub returns-clause-only : goal.returns-clause-only
returns-clause-only c = cell_faults c.refusals_are_first_faults.ensures.only

pub returns-clause-each : goal.returns-clause-each
returns-clause-each c = cell_refused c.refusals_are_first_faults.ensures.each
