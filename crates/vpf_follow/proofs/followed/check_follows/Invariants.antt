use Rattle.std.proofs.Common.{◌≡◌}
use Rattle.vpf_prims.specs.Primitives.{edge_count}
use Rattle.vpf_wing.specs.Links.{links_of}
use Rattle.vpf_follow.specs.FollowLines.{follows_finding}
use Rattle.vpf_follow.specs.Inner.Homes.{AreHomes, darts_to}
use Rattle.vpf_prims.specs.Libraries.{in_tiles, library_of}
use Rattle.vpf_follow.proofs.TileLines.{from_tile}
use Rattle.vpf_follow.proofs.followed.check_follows.Given as goal

abbrev pub invariant-loop-t : goal.invariant-loop-t
invariant-loop-t l = record {
  left : from_tile (follows_finding (links_of (library_of l.coverage))) l.coverage l.t
      ≡ in_tiles (follows_finding (links_of (library_of l.coverage))) l.coverage;
  homes : AreHomes (links_of (library_of l.coverage)) (darts_to (edge_count (library_of l.coverage)) l.t 0) l.homes;
}
