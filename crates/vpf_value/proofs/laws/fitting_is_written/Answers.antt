use Rattle.vpf_value.proofs.Canonicals.{cell_canonical, canonical_again, shortest, one_spelling, length-fixed, length-either}
use Rattle.vpf_value.proofs.laws.fitting_is_written.Goals as goal

pub returns-clause-spelled : goal.returns-clause-spelled
returns-clause-spelled c = cell_canonical

pub returns-clause-read_again : goal.returns-clause-read_again
returns-clause-read_again c = canonical_again

pub returns-clause-shortest : goal.returns-clause-shortest
returns-clause-shortest c = shortest

pub returns-clause-alone : goal.returns-clause-alone
returns-clause-alone c = one_spelling

pub returns-clause-width : goal.returns-clause-width
returns-clause-width c = length-fixed

pub returns-clause-either : goal.returns-clause-either
returns-clause-either c = length-either
