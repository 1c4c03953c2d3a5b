use Rattle.std.proofs.Common.{◌≡◌, ap, ◌∙◌}
use Rattle.vpf_darts.specs.Darts.{flip, tile_dart_code}
use Rattle.vpf_darts.specs.Inner.DartLaws.{flip-tile_dart}
use Rattle.vpf_prims.specs.Libraries.{library_of}
use Rattle.vpf_wing.specs.Links.{links_of}
use Rattle.vpf_wing.specs.Inner.DartLaws.{flip-has}
use Rattle.vpf_cross.specs.FollowLaws.{home_has}
use Rattle.vpf_trace.specs.Inner.WalkLaws.{flip_tiled, flip_untiled}
use Rattle.vpf_trace.proofs.stepping.PastLinesWalk.flip.Goals as goal

pub home_copy-requires : goal.home_copy-requires
home_copy-requires c =
    let L = library_of c.args.self.now.checked.now in
    let same : tile_dart_code c.flip.result ≡ flip (tile_dart_code c.args.dart) = ap tile_dart_code c.flip.ensures ∙ flip-tile_dart c.args.dart in
    rw (c.in-Some.ensures.1, same) (flip-has L (tile_dart_code c.args.dart) (home_has (links_of L) (tile_dart_code c.args.dart) c.requires))

pub returns-in-Some : goal.returns-in-Some
returns-in-Some c =
    let same : tile_dart_code c.flip.result ≡ flip (tile_dart_code c.args.dart) = ap tile_dart_code c.flip.ensures ∙ flip-tile_dart c.args.dart in
    flip_tiled (library_of c.args.self.now.checked.now) (tile_dart_code c.args.dart) (tile_dart_code c.home_copy.result) c.requires
    (rw (c.in-Some.ensures.1, same) at c.home_copy.ensures.copy)

pub returns-in-None : goal.returns-in-None
returns-in-None c =
    ap tile_dart_code c.flip-in-None.ensures ∙ flip-tile_dart c.args.dart
    ∙ flip_untiled (library_of c.args.self.now.checked.now) c.args.self.now.traceable c.in-None.ensures (tile_dart_code c.args.dart) c.requires
