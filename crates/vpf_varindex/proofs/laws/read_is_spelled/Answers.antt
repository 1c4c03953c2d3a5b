use Rattle.vpf_varindex.proofs.IndexLaws.{index_takes}
use Rattle.vpf_varindex.proofs.laws.read_is_spelled.Goals as goal

pub returns : goal.returns
returns c = index_takes
