use Rattle.vpf_tiling_laws.proofs.tiled.Facts.{map_laws}
use Rattle.vpf_tiling_laws.proofs.tiled.FollowLemmas as lemmas
use Rattle.vpf_tiling_laws.proofs.tiled.laws.following_is_next.Goals as goal

pub returns-clause-next : goal.returns-clause-next
returns-clause-next c = lemmas.following_is_next (map_laws c.first_kept_dart.ensures c.well_formed_has_map.ensures)

pub returns-clause-first : goal.returns-clause-first
returns-clause-first c = lemmas.next_is_first (map_laws c.first_kept_dart.ensures c.well_formed_has_map.ensures)
