use Rattle.vpf_varindex.proofs.IndexLaws.{index_again}
use Rattle.vpf_varindex.proofs.laws.spelled_is_read.Goals as goal

pub returns : goal.returns
returns c = index_again
