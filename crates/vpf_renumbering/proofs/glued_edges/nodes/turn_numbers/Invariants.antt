use Rattle.std.proofs.Common.{map}
use Rattle.vpf_darts.specs.Darts.{tile_dart_code}
use Rattle.vpf_darts.specs.Listings.{numbers_of}
use Rattle.vpf_renumbering.specs.Inner.GluedEdges.Numbers.{AreByFirst}
use Rattle.vpf_renumbering.proofs.glued_edges.nodes.turn_numbers.Given as goal

abbrev pub invariant-loop-i : goal.invariant-loop-i
invariant-loop-i l = AreByFirst (map tile_dart_code l.darts) (numbers_of l.turns) l.i l.numbers.items
