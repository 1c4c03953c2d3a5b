-- The darts of a library, by their numbers.
use Rattle.std.proofs.Common.{◌≡◌, ℕ, ◌-◌, arith}
use Rattle.vpf_darts.specs.Darts.{tile_in, flip, edge_in}

pub tile-flip : (x : ℕ) → tile_in (flip x) ≡ tile_in x
unfolding tile_in flip
tile-flip x = omega arith

pub edge-flip : (x : ℕ) → edge_in (flip x) ≡ edge_in x
unfolding edge_in flip
edge-flip x = omega arith
