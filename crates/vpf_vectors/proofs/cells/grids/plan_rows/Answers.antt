use Rattle.std.proofs.Common.{arith}
use Rattle.vpf_vectors.specs.Cells.Rows.{tile_of}
use Rattle.vpf_vectors.proofs.cells.CodeLemmas.{put, among_faces}
use Rattle.vpf_vectors.proofs.cells.grids.plan_rows.Goals as goal

pub tile_of-requires-clause-last : goal.tile_of-requires-clause-last
tile_of-requires-clause-last c = among_faces c.args.n c.loop-face.face (omega arith)

pub loop-face-preserved : goal.loop-face-preserved
loop-face-preserved c = put (tile_of c.args.n) 2 c.loop-face.face c.loop-face.rows.items c.push.new.self.items c.tile_of.result
    (omega arith) c.in_ok-push.ensures.items c.loop-face.invariant c.tile_of.ensures
