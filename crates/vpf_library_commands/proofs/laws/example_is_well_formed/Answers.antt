use Rattle.vpf_library_commands.proofs.Example.{example_is_found, example_is_well_formed}
use Rattle.vpf_library_commands.proofs.laws.example_is_well_formed.Goals as goal

pub returns-clause-well_formed : goal.returns-clause-well_formed
returns-clause-well_formed c = example_is_well_formed c.numbers_decide.ensures.coverage c.loops_decide.ensures c.cycles_decide.ensures

pub returns-clause-found : goal.returns-clause-found
returns-clause-found c = example_is_found
