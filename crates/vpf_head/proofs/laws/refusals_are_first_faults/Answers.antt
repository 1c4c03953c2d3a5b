use Rattle.vpf_head.proofs.HeaderFaults.{header_faults}
use Rattle.vpf_head.proofs.HeaderRefusals.{header_refused}
use Rattle.vpf_head.proofs.laws.refusals_are_first_faults.Goals as goal

pub returns-clause-only : goal.returns-clause-only
returns-clause-only c = header_faults

pub returns-clause-each : goal.returns-clause-each
returns-clause-each c = header_refused
