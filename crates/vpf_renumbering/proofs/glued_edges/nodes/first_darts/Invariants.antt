use Rattle.std.proofs.Common.{◌≡◌, map, take}
use Rattle.vpf_darts.specs.Cycles.{first_of}
use Rattle.vpf_darts.specs.Darts.{tile_dart_code}
use Rattle.vpf_darts.specs.Listings.{numbers_of}
use Rattle.vpf_renumbering.proofs.glued_edges.nodes.first_darts.Given as goal

abbrev pub invariant-loop-i : goal.invariant-loop-i
invariant-loop-i l = map tile_dart_code l.nodes.items ≡ map first_of (take l.i (numbers_of l.turns))
