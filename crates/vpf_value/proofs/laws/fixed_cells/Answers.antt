use Rattle.vpf_value.proofs.WidthLaws.{fixed_cell}
use Rattle.vpf_value.proofs.laws.fixed_cells.Goals as goal

pub returns : goal.returns
returns c = fixed_cell
