use Rattle.vpf_tiling_laws.proofs.tiled.Facts.{map_laws}
use Rattle.vpf_tiling_laws.proofs.tiled.TiledLemmas as lemmas
use Rattle.vpf_tiling_laws.proofs.tiled.laws.tiled_agrees.Goals as goal

pub returns : goal.returns
returns c =
    lemmas.tiled_agrees (map_laws c.first_kept_dart.ensures c.well_formed_has_map.ensures)
    c.removal_leaves_a_map.ensures.map c.darts_lie_on_cycles.ensures
