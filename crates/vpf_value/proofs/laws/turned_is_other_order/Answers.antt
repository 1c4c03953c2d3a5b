use Rattle.vpf_value.proofs.TurnedCells.{cell_turned}
use Rattle.vpf_value.proofs.laws.turned_is_other_order.Goals as goal

pub returns : goal.returns
returns c = cell_turned
