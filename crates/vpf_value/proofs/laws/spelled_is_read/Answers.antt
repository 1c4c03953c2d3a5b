use Rattle.vpf_value.proofs.CellLaws.{cell_again}
use Rattle.vpf_value.proofs.laws.spelled_is_read.Goals as goal

pub returns : goal.returns
returns c = cell_again
