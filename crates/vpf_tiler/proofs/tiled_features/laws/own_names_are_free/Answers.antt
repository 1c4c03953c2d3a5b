use Rattle.vpf_tiler.proofs.tiled_features.OtherNames.{own_names_are_free}
use Rattle.vpf_tiler.proofs.tiled_features.laws.own_names_are_free.Goals as goal

pub returns : goal.returns
returns c = own_names_are_free
