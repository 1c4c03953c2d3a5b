use Rattle.std.proofs.Common.{◌≡◌}
use Rattle.vpf_prims.specs.Primitives.{edge_count}
use Rattle.vpf_wing.specs.Links.{links_of}
use Rattle.vpf_follow.specs.FollowLines.{follow_lines, follows_finding}
use Rattle.vpf_follow.specs.Inner.Homes.{AreHomes, darts_to}
use Rattle.vpf_prims.specs.Libraries.{library_of}
use Rattle.vpf_follow.proofs.EdgeLines.{from_edge}
use Rattle.vpf_follow.proofs.checking.check_edges.Given as goal

abbrev pub invariant-loop-k : goal.invariant-loop-k
invariant-loop-k l = record {
  left : from_edge (follow_lines (links_of (library_of l.coverage)) l.number l.tile) l.tile l.k
      ≡ follows_finding (links_of (library_of l.coverage)) l.number l.tile;
  homes : AreHomes (links_of (library_of l.coverage)) (darts_to (edge_count (library_of l.coverage)) l.number l.k) l.homes;
}
