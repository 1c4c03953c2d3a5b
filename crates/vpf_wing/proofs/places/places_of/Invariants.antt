use Rattle.std.proofs.Common.{◌≡◌, map, take, length}
use Rattle.vpf_wing.proofs.PlaceLemmas.{place_of}
use Rattle.vpf_wing.proofs.places.places_of.Given as goal

abbrev pub invariant-loop-dart : goal.invariant-loop-dart
invariant-loop-dart l = record {
  places : l.places.items ≡ map place_of (take l.dart-index l.darts);
  len : length l.places.items ≡ l.dart-index;
}
