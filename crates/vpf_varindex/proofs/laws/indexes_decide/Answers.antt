use Rattle.vpf_varindex.proofs.IndexLaws.{index_decided}
use Rattle.vpf_varindex.proofs.laws.indexes_decide.Goals as goal

pub returns : goal.returns
returns c = index_decided
