use Rattle.vpf_table_commands.proofs.PlainRows.{plain_rows}
use Rattle.vpf_table_commands.proofs.laws.plain_rows.Goals as goal

pub returns : goal.returns
returns c = plain_rows c.index_answers_as_the_scan.ensures
