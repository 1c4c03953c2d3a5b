use Rattle.std.proofs.Common.{◌≡◌}
use Rattle.vpf_prims.specs.Libraries.{library_of}
use Rattle.vpf_follow.specs.Libraries.{over_edges}
use Rattle.vpf_cross.specs.CarriedLines.{nodes_lines}
use Rattle.vpf_cross.proofs.LoopLemmas.{edges_left}
use Rattle.vpf_cross.proofs.carried.check_nodes.Given as goal

abbrev pub invariant-loop-k : goal.invariant-loop-k
invariant-loop-k l =
    edges_left (nodes_lines (library_of l.coverage) l.number l.tile) l.k l.tile ≡ over_edges (nodes_lines (library_of l.coverage) l.number l.tile) l.tile
