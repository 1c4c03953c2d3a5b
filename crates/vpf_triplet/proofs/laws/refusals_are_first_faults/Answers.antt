use Rattle.vpf_triplet.proofs.Faults.{triplet_refused}
use Rattle.vpf_triplet.specs.Inner.FaultLaws.{triplet_faults}
use Rattle.vpf_triplet.proofs.laws.refusals_are_first_faults.Goals as goal

pub returns-clause-only : goal.returns-clause-only
returns-clause-only c = triplet_faults

pub returns-clause-each : goal.returns-clause-each
returns-clause-each c = triplet_refused
