use Rattle.std.proofs.Common.{◌<◌, arith, length}
use Rattle.vpf_prims.specs.Reading.{primitives_of}
use Rattle.vpf_cut_rings.proofs.PlaceLemmas.{ring_faces_more}
use Rattle.vpf_cut_rings.proofs.rings.ring_faces.Goals as goal

pub loop-k-preserved : goal.loop-k-preserved
loop-k-preserved c =
    let inside : c.loop-k.k < length (primitives_of c.args.source.now.tables).rings = omega arith in
    ring_faces_more (primitives_of c.args.source.now.tables) c.loop-k.k inside c.loop-k.faces.items c.push.new.self.items c.ring.result.0 c.in_ok-push.ensures.items
    c.ring.ensures.face c.loop-k.invariant
