use Rattle.std.proofs.Common.{map, take}
use Rattle.vpf_darts.specs.Darts.{tile_dart_code}
use Rattle.vpf_renumbering.specs.Inner.GluedEdges.Numbers.{ArePut}
use Rattle.vpf_renumbering.proofs.glued_edges.nodes.put_turn.Given as goal

abbrev pub invariant-loop-dart : goal.invariant-loop-dart
invariant-loop-dart l = ArePut (map tile_dart_code l.darts) (take l.dart-index (map tile_dart_code l.turn)) l.number l.fn.numbers l.numbers
