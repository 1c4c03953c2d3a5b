use Rattle.vpf_varindex.proofs.EntryFaults.{index_faults, fault_refuses}
use Rattle.vpf_varindex.proofs.laws.refusals_are_first_faults.Goals as goal

pub returns-clause-only : goal.returns-clause-only
returns-clause-only c = index_faults

pub returns-clause-each : goal.returns-clause-each
returns-clause-each c = fault_refuses
