use Rattle.std.proofs.Common.{◌≡◌, ◌<◌, ◌^◌, map, take}
use Rattle.std.specs.Prelude.{All, filter}
use Rattle.vpf_darts.specs.declared.darts.TileDart.{TileDart}
use Rattle.vpf_darts.specs.Darts.{tile_dart_code}
use Rattle.vpf_renumbering.proofs.glued_edges.PlusLemmas.{is_plus}
use Rattle.vpf_renumbering.proofs.glued_edges.edges.plus_darts.Given as goal

abbrev pub invariant-loop-dart : goal.invariant-loop-dart
invariant-loop-dart l = record {
  numbers : map tile_dart_code l.edges.items ≡ filter is_plus (map tile_dart_code (take l.dart-index l.darts));
  small : All (λ (d : TileDart). d.edge < 2 ^ 32) l.edges.items;
}
