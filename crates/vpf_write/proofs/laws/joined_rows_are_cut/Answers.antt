use Rattle.vpf_write.proofs.WritingLaws.{joined_whole, joined_rows}
use Rattle.vpf_write.proofs.laws.joined_rows_are_cut.Goals as goal

pub returns-clause-whole : goal.returns-clause-whole
returns-clause-whole c = joined_whole

pub returns-clause-rows : goal.returns-clause-rows
returns-clause-rows c = joined_rows
