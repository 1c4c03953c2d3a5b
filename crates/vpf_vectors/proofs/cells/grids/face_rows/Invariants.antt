use Rattle.std.proofs.Common.{◌≡◌, ◌-◌}
use Rattle.std.specs.List.{range_with_len}
use Rattle.vpf_vectors.proofs.cells.grids.face_rows.Given as goal

abbrev pub invariant-loop-face : goal.invariant-loop-face
invariant-loop-face l = l.rows.items ≡ range_with_len 1 (l.face - 1)
