use Rattle.vpf_value.proofs.WidthLaws.{cell_has_room}
use Rattle.vpf_value.proofs.laws.cells_have_room.Goals as goal

pub returns : goal.returns
returns c = cell_has_room
