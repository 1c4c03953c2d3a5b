use Rattle.vpf_table.proofs.FaultLaws.{opening_faults}
use Rattle.vpf_table.proofs.RefusalLaws.{opening_refused}
use Rattle.vpf_table.proofs.laws.refusals_are_first_faults.Goals as goal

pub returns-clause-only : goal.returns-clause-only
returns-clause-only c = opening_faults c.cells_and_headers.ensures c.laws_of_indexes.ensures

pub returns-clause-each : goal.returns-clause-each
returns-clause-each c = opening_refused c.cells_and_headers.ensures c.laws_of_indexes.ensures
