use Rattle.std.proofs.Common.{◌≡◌, ◌-◌, map}
use Rattle.std.specs.List.{range_with_len}
use Rattle.vpf_vectors.specs.Cells.Rows.{grid_ring_row}
use Rattle.vpf_vectors.proofs.cells.grids.ring_rows.Given as goal

abbrev pub invariant-loop-face : goal.invariant-loop-face
invariant-loop-face l = l.rows.items ≡ map grid_ring_row (range_with_len 1 (l.face - 1))
