use Rattle.vpf_numbers.proofs.NumbersCoverage.{coverage_decide, numbers_decide}
use Rattle.vpf_numbers.proofs.laws.numbers_decide.Goals as goal

pub returns-clause-tile : goal.returns-clause-tile
returns-clause-tile c = numbers_decide

pub returns-clause-coverage : goal.returns-clause-coverage
returns-clause-coverage c = coverage_decide
