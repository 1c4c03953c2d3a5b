use Rattle.std.proofs.Common.{◌≡◌, ◌+◌, ◌*◌, map}
use Rattle.std.specs.List.{range_with_len}
use Rattle.vpf_vectors.specs.Cells.Rows.{row_of_edge}
use Rattle.vpf_vectors.proofs.cells.grids.east_line.Given as goal

abbrev pub invariant-loop-x : goal.invariant-loop-x
invariant-loop-x l = l.rows.items ≡ map (row_of_edge l.n) (range_with_len 1 (l.y * l.n + l.x))
