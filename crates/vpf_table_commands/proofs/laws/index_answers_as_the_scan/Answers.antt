use Rattle.vpf_table_commands.proofs.AgreeingAnswers.{answers_as_the_scan}
use Rattle.vpf_table_commands.proofs.laws.index_answers_as_the_scan.Goals as goal

pub returns : goal.returns
returns c = answers_as_the_scan c.agreement_is_no_finding.ensures.none c.indexed_selection_is_the_scan.ensures.table
