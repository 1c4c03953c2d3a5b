use Rattle.vpf_tiling_laws.proofs.tiled.Facts.{map_laws}
use Rattle.vpf_tiling_laws.proofs.tiled.NamedLemmas as lemmas
use Rattle.vpf_tiling_laws.proofs.tiled.laws.map_is_named.Goals as goal

pub returns : goal.returns
returns c = lemmas.map_is_named (map_laws c.first_kept_dart.ensures c.well_formed_has_map.ensures)
