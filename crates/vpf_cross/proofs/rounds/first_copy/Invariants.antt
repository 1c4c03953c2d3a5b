use Rattle.std.proofs.Common.{◌≡◌, ◌+◌, ◌-◌, true, Some, length}
use Rattle.vpf_darts.specs.Darts.{tile_dart_code}
use Rattle.vpf_follow.specs.Following.{follow, is_home}
use Rattle.vpf_follow.specs.Inner.Homes.{IsDartIn}
use Rattle.vpf_cross.specs.HomeLines.{coverage_links}
use Rattle.vpf_cross.specs.RoundLines.{first_copy}
use Rattle.vpf_cross.proofs.rounds.first_copy.Given as goal

abbrev pub invariant-loop-passed : goal.invariant-loop-passed
invariant-loop-passed l = record {
  left : first_copy (coverage_links l.followed) l.number (length (coverage_links l.followed).darts + 1 - l._passed) (Some (tile_dart_code l.next))
      ≡ first_copy (coverage_links l.followed) l.number (length (coverage_links l.followed).darts + 1) (follow (coverage_links l.followed) (tile_dart_code l.fn.dart));
  dart : IsDartIn l.followed l.next;
  home : is_home (coverage_links l.followed) (tile_dart_code l.next) ≡ true;
}
