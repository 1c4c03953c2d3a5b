use Rattle.vpf_run.proofs.Grammared.{faults_said, tables_said}
use Rattle.vpf_run.proofs.laws.answers_follow_the_grammar.Goals as goal

pub returns-clause-tables : goal.returns-clause-tables
returns-clause-tables c = tables_said c.spelled_is_opened.ensures

pub returns-clause-faults : goal.returns-clause-faults
returns-clause-faults c = faults_said c.refusals_are_first_faults.ensures.each
