use Rattle.std.proofs.Common.{ap, ◌∙◌, arith}
use Rattle.std.specs.List.{range_with_len}
use Rattle.vpf_vectors.proofs.cells.CodeLemmas.{put_number, all_faces}
use Rattle.vpf_vectors.proofs.cells.grids.face_rows.Goals as goal

pub loop-face-preserved : goal.loop-face-preserved
loop-face-preserved c = put_number 1 c.loop-face.face c.loop-face.rows.items c.push.new.self.items
    (omega arith) c.in_ok-push.ensures.items c.loop-face.invariant

pub returns : goal.returns
returns c = c.loop-face.invariant ∙ ap (range_with_len 1) (all_faces c.args.n c.loop-face.face (omega arith))
