use Rattle.std.proofs.Common.{◌≡◌, ◌-◌, map}
use Rattle.std.specs.List.{range_with_len}
use Rattle.vpf_vectors.specs.Cells.Rows.{tile_of}
use Rattle.vpf_vectors.proofs.cells.grids.plan_rows.Given as goal

abbrev pub invariant-loop-face : goal.invariant-loop-face
invariant-loop-face l = l.rows.items ≡ map (tile_of l.n) (range_with_len 2 (l.face - 2))
