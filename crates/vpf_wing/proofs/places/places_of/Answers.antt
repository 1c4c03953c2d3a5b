use Rattle.std.proofs.Common.{◌<◌, ◌^◌, arith}
use Rattle.vpf_wing.proofs.PlaceLemmas.{place_fits}
use Rattle.vpf_wing.proofs.places.places_of.Goals as goal

pub overflow_cast-place_of : goal.overflow_cast-place_of
overflow_cast-place_of c =
    let small : c.place_of.result < 2 ^ 25 =
    place_fits c.loop-dart.dart-index c.place_of.result c.args.darts.now _ c.requires.few c.requires.in_range c.loop-dart-test.true c.place_of.ensures in
    omega arith
