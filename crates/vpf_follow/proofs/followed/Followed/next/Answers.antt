use Rattle.std.proofs.Common.{◌≡◌, ◌^◌, ◌<◌, sym, arith}
use Rattle.vpf_darts.specs.Darts.{tile_dart_code}
use Rattle.vpf_wing.specs.Links.{links_of}
use Rattle.vpf_prims.specs.Libraries.{library_of}
use Rattle.vpf_follow.proofs.FollowedLemmas.{follower_home, is_followed}
use Rattle.vpf_follow.specs.Inner.FollowLaws.{home_has}
use Rattle.vpf_follow.proofs.followed.Followed.next.Goals as goal

pub unreachable-requires : goal.unreachable-requires
unreachable-requires c =
    let few : c.args.dart.edge < 2 ^ 32 = omega arith in
    let same : c.self.inside.coverage.now ≡ c.args.self.now = c.self.view_is in
    is_followed c.self.inside.coverage.now c.args.dart few (rw (← same) at c.requires) c.self.invariant.agrees (sym c.in-None.ensures)

pub returns-clause-home : goal.returns-clause-home
returns-clause-home c =
    let same : c.self.inside.coverage.now ≡ c.args.self.now = c.self.view_is in
    rw (← same) (follower_home (links_of (library_of c.self.inside.coverage.now)) (tile_dart_code c.args.dart) (tile_dart_code c.in-Some.next)
    (sym c.in-Some.ensures))

pub returns-clause-dart : goal.returns-clause-dart
returns-clause-dart c =
    let same : c.self.inside.coverage.now ≡ c.args.self.now = c.self.view_is in
    let C = links_of (library_of c.self.inside.coverage.now) in
    rw (← same) (home_has C (tile_dart_code c.in-Some.next)
    (follower_home C (tile_dart_code c.args.dart) (tile_dart_code c.in-Some.next) (sym c.in-Some.ensures)))
