use Rattle.std.proofs.Common.{◌≡◌, true, ap, sym, subst, ◌∙◌}
use Rattle.vpf_darts.specs.Darts.{flip, tile_dart_code}
use Rattle.vpf_darts.specs.Inner.DartLaws.{flip-tile_dart}
use Rattle.vpf_prims.specs.Coverages.{CoverageTables}
use Rattle.vpf_prims.specs.Libraries.{library_of}
use Rattle.vpf_wing.specs.Links.{links_of}
use Rattle.vpf_wing.specs.Inner.DartLaws.{flip-has}
use Rattle.vpf_follow.specs.Inner.FollowLaws.{home_has}
use Rattle.vpf_follow.specs.Following.{is_home, library_map}
use Rattle.vpf_trace.specs.Inner.WalkLaws.{flip_tiled, flip_untiled}
use Rattle.vpf_renumbering.proofs.whole.walking.WholeMapWalk.flip.Goals as goal

pub home_copy-requires : goal.home_copy-requires
home_copy-requires c =
    let L = library_of c.self.inside.checked.now in
    let same : tile_dart_code c.flip.result ≡ flip (tile_dart_code c.args.dart) = ap tile_dart_code c.flip.ensures ∙ flip-tile_dart c.args.dart in
    let home : is_home (links_of (library_of c.self.inside.checked.now)) (tile_dart_code c.args.dart) ≡ true =
    subst (λ (v : CoverageTables). is_home (links_of (library_of v)) (tile_dart_code c.args.dart) ≡ true) (sym c.self.view_is) c.requires in
    rw (c.in-Some.ensures.1, same) (flip-has L (tile_dart_code c.args.dart) (home_has (links_of L) (tile_dart_code c.args.dart) home))

pub returns-in-Some : goal.returns-in-Some
returns-in-Some c =
    let same : tile_dart_code c.flip.result ≡ flip (tile_dart_code c.args.dart) = ap tile_dart_code c.flip.ensures ∙ flip-tile_dart c.args.dart in
    let home : is_home (links_of (library_of c.self.inside.checked.now)) (tile_dart_code c.args.dart) ≡ true =
    subst (λ (v : CoverageTables). is_home (links_of (library_of v)) (tile_dart_code c.args.dart) ≡ true) (sym c.self.view_is) c.requires in
    subst (λ (v : CoverageTables). tile_dart_code c.home_copy.result ≡ (library_map (links_of (library_of v))).flip (tile_dart_code c.args.dart)) c.self.view_is
    (flip_tiled (library_of c.self.inside.checked.now) (tile_dart_code c.args.dart) (tile_dart_code c.home_copy.result) home
    (rw (c.in-Some.ensures.1, same) at c.home_copy.ensures.copy))

pub returns-in-None : goal.returns-in-None
returns-in-None c =
    let home : is_home (links_of (library_of c.self.inside.checked.now)) (tile_dart_code c.args.dart) ≡ true =
    subst (λ (v : CoverageTables). is_home (links_of (library_of v)) (tile_dart_code c.args.dart) ≡ true) (sym c.self.view_is) c.requires in
    ap tile_dart_code c.flip-in-None.ensures ∙ flip-tile_dart c.args.dart
    ∙ subst (λ (v : CoverageTables). flip (tile_dart_code c.args.dart) ≡ (library_map (links_of (library_of v))).flip (tile_dart_code c.args.dart)) c.self.view_is
    (flip_untiled (library_of c.self.inside.checked.now) c.self.invariant c.in-None.ensures (tile_dart_code c.args.dart) home)
