-- The example computes.
use Rattle.std.specs.Prelude.{refl}
use Rattle.vpf_darts.specs.Darts.{code, tile_in, edge_in, sign_in, flip}
use Rattle.vpf_wing.specs.Nexts.{tail, face, wing, next_dart}
use Rattle.vpf_wing.specs.Places.{next_place, least_place}
use Rattle.vpf_wing.specs.CycleLines.{cycles_finding, ring_cycle, ring_dart}
use Rattle.vpf_prims.specs.Libraries.{in_tiles}
use Rattle.vpf_follow.specs.Libraries.{over_edges}
use Rattle.vpf_follow.specs.Following.{follow, first_home, home_copy}
use Rattle.vpf_cross.specs.RoundLines.{copy_in_tile}
use Rattle.vpf_cross.specs.CarriedLines.{first_tile}
use Rattle.vpf_cross.specs.Inner.Example.{TilesAreFound}

pub tiles_are_found : TilesAreFound
unfolding code tile_in edge_in sign_in flip tail face wing next_dart next_place least_place cycles_finding ring_cycle ring_dart in_tiles over_edges follow first_home home_copy copy_in_tile first_tile
tiles_are_found = (refl, refl)
