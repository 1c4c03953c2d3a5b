use Rattle.std.proofs.Common.{◌≡◌, ◌≤◌}
use Rattle.vpf_prims.specs.Libraries.{library_of}
use Rattle.vpf_wing.specs.Links.{row_darts}
use Rattle.vpf_renumbering.specs.Inner.GluedEdges.Counting.{plus_count}
use Rattle.vpf_renumbering.proofs.glued_edges.counting.home_edges.Given as goal

abbrev pub invariant-loop-k : goal.invariant-loop-k
invariant-loop-k l = record {
  counted : l.count ≡ plus_count (library_of l.coverage) (row_darts l.number l.k);
  few : l.count ≤ l.k;
}
