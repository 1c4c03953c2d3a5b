use Rattle.std.proofs.Common.{◌≡◌, ◌-◌, map}
use Rattle.std.specs.List.{range_with_len}
use Rattle.vpf_vectors.specs.Cells.Rows.{first_edge}
use Rattle.vpf_vectors.proofs.cells.grids.node_rows.Given as goal

abbrev pub invariant-loop-node : goal.invariant-loop-node
invariant-loop-node l = l.rows.items ≡ map (first_edge l.n) (range_with_len 1 (l.node - 1))
