use Rattle.vpf_value.proofs.CellLaws.{cell_takes}
use Rattle.vpf_value.proofs.laws.read_is_spelled.Goals as goal

pub returns : goal.returns
returns c = cell_takes
