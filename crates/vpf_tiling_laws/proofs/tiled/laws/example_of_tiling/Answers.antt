use Rattle.std.proofs.Common.{refl}
use Rattle.vpf_darts.specs.Maps.{without_edge}
use Rattle.vpf_darts.specs.Darts.{code, tile_in, edge_in, sign_in, flip}
use Rattle.vpf_follow.specs.Following.{follow, first_home, home_copy}
use Rattle.vpf_trace.specs.Tracing.{tile_lines}
use Rattle.vpf_tiling_laws.proofs.tiled.laws.example_of_tiling.Goals as goal

pub returns-clause-tiles : goal.returns-clause-tiles
unfolding code tile_in edge_in sign_in flip without_edge
returns-clause-tiles c = refl

pub returns-clause-trace : goal.returns-clause-trace
unfolding code tile_in edge_in sign_in flip without_edge follow first_home home_copy tile_lines
returns-clause-trace c = (refl, refl)
