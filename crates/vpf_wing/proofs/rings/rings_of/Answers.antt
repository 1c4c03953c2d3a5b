use Rattle.std.proofs.Common.{rules, ◌≡◌, ◌<◌, ◌+◌, ◌++◌, ◌∷◌, [], take, length, sym, ◌∙◌, arith}
use Rattle.vpf_prims.specs.Reading.{primitives_of}
use Rattle.vpf_prims.specs.Lists.{kth}
use Rattle.vpf_prims.specs.Primitives.{absent_ring}
use Rattle.vpf_wing.specs.CycleLines.{own_ring, own_rings}
use Rattle.vpf_wing.proofs.RowLemmas.{take_more}
use Rattle.vpf_wing.proofs.rings.rings_of.Goals as goal

pub loop-k-preserved : goal.loop-k-preserved
loop-k-preserved c =
    let i = c.loop-k.invariant in
    let rows = (primitives_of c.args.tile.now.tables).rings in
    let in' : c.loop-k.k < length rows = omega (arith, c.rings-count.ensures.value) in
    let before = take c.loop-k.k (own_rings (primitives_of c.args.tile.now.tables)) in
    let pushed : c.push.new.self.items ≡ before ++ own_ring (kth rows (c.loop-k.k + 1) absent_ring) ∷ [] =
    rw (← i.rings, ← c.ring-face.ensures.face, ← c.ring-face.ensures.edge) c.in_ok-push.ensures.items in
    record {
      rings = pushed ∙ sym (take_more own_ring rows c.loop-k.k absent_ring in');
      len = search rules;
    }
