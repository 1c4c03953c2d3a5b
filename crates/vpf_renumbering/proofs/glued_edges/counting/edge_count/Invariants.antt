use Rattle.std.proofs.Common.{◌≡◌, ◌≤◌, ◌*◌, ◌^◌}
use Rattle.vpf_follow.specs.Inner.Homes.{darts_to}
use Rattle.vpf_prims.specs.Libraries.{library_of}
use Rattle.vpf_prims.specs.Primitives.{edge_count}
use Rattle.vpf_renumbering.specs.Inner.GluedEdges.Counting.{plus_count}
use Rattle.vpf_renumbering.proofs.glued_edges.counting.edge_count.Given as goal

abbrev pub invariant-loop-number : goal.invariant-loop-number
invariant-loop-number l = record {
  counted : l.count ≡ plus_count (library_of l.coverage) (darts_to (edge_count (library_of l.coverage)) l.number 0);
  few : l.count ≤ 2 ^ 24 * l.number;
}
