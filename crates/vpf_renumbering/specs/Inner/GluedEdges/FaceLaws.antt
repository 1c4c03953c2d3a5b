-- The row of the edge of a dart of a coverage, and the face that it names.
use Rattle.std.proofs.Common.{◌≡◌, ◌^◌, ◌<◌}
use Rattle.vpf_darts.specs.declared.darts.TileDart.{TileDart}
use Rattle.vpf_darts.specs.Darts.{sign_of, tile_dart_code, tile_in, edge_in}
use Rattle.vpf_wing.specs.Inner.DartLaws.{code-tile, sign-small, code-edge}

pub tile_is : (d : TileDart) → d.edge < 2 ^ 32 → tile_in (tile_dart_code d) ≡ d.tile
tile_is d few = code-tile d.tile d.edge (sign_of d.minus) few (sign-small d.minus)

pub edge_is : (d : TileDart) → d.edge < 2 ^ 32 → edge_in (tile_dart_code d) ≡ d.edge
edge_is d few = code-edge d.tile d.edge (sign_of d.minus) few (sign-small d.minus)
