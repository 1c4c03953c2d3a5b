use Rattle.vpf_varindex.proofs.IndexLaws.{written_again, written_spelled}
use Rattle.vpf_varindex.proofs.laws.written_is_read.Goals as goal

pub returns-clause-spelled : goal.returns-clause-spelled
returns-clause-spelled c = written_spelled

pub returns-clause-read_again : goal.returns-clause-read_again
returns-clause-read_again c = written_again
