use Rattle.vpf_cross.proofs.Example.{tiles_are_found}
use Rattle.vpf_cross.proofs.laws.example_of_tiles.Goals as goal

pub returns : goal.returns
returns c = tiles_are_found
