use Rattle.vpf_tiling_laws.proofs.tiled.Facts.{map_laws}
use Rattle.vpf_tiling_laws.proofs.tiled.NameLemmas as lemmas
use Rattle.vpf_tiling_laws.proofs.tiled.laws.home_is_name.Goals as goal

pub returns : goal.returns
returns c = lemmas.home_is_name (map_laws c.first_kept_dart.ensures c.well_formed_has_map.ensures)
