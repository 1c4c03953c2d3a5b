use Rattle.vpf_table_commands.proofs.CyclesAnswers.{has_cycles, one_cycles}
use Rattle.vpf_table_commands.proofs.laws.one_cycles_answer.Goals as goal

pub returns-clause-some : goal.returns-clause-some
returns-clause-some c = has_cycles c.one_boundary_listing.ensures.some

pub returns-clause-one : goal.returns-clause-one
returns-clause-one c = one_cycles c.one_boundary_listing.ensures.one
