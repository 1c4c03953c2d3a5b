use Rattle.std.proofs.Common.{◌-◌, length, drop, ◌∙◌, arith, length-take-le, length-drop}
use borrow.Rule.Slice.PartMut.{same_len_mid}
use Rattle.vpf_source.proofs.Pieces.{reads_on}
use Rattle.vpf_source.proofs.loading.fill.Goals as goal

-- the buffer keeps its length, and its front grows by what was read
pub loop-done-preserved : goal.loop-done-preserved
loop-done-preserved g c =
    let kept = c.loop-done.invariant in
    let read = c.in_ok-count.ensures in
    let buf = c.loop-done.buf in
    let room = length buf - c.loop-done.done in
    let part = length-take-le room (drop c.loop-done.done buf) in
    let same_len = same_len_mid c.loop-done.done room buf c.read_at.new.buf c.read_at.auto.buf in
    record {
      within = rw same_len (omega (arith, read.within.0, c.read_at.auto.buf, part, length-drop c.loop-done.done buf));
      front = reads_on _ _ _ room _ _ c.read_at.new.buf kept.within read.within.0 kept.front (rw kept.kept at read.bytes);
      read = reads_on _ _ _ room _ _ c.read_at.new.buf kept.within read.within.0 kept.read (rw kept.reads_kept at read.read);
      kept = read.files ∙ kept.kept;
      reads_kept = read.reads ∙ kept.reads_kept;
      stood = read.stood ∙ kept.stood;
    }
