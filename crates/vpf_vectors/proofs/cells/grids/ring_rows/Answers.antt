use Rattle.std.proofs.Common.{ap, ◌∙◌, map, arith}
use Rattle.std.specs.List.{range_with_len}
use Rattle.vpf_vectors.specs.Cells.Rows.{grid_ring_row}
use Rattle.vpf_vectors.proofs.cells.CodeLemmas.{put, all_faces}
use Rattle.vpf_vectors.proofs.cells.grids.ring_rows.Goals as goal

pub loop-face-preserved : goal.loop-face-preserved
loop-face-preserved c = put grid_ring_row 1 c.loop-face.face c.loop-face.rows.items c.push.new.self.items
    (record { face_id = c.loop-face.face; start_edge = c.start_edge.result }) (omega arith) c.in_ok-push.ensures.items c.loop-face.invariant
    (ap (λ e. record { face_id = c.loop-face.face; start_edge = e }) c.start_edge.ensures)

pub returns : goal.returns
returns c = c.loop-face.invariant ∙ ap (λ k. map grid_ring_row (range_with_len 1 k)) (all_faces c.args.n c.loop-face.face (omega arith))
