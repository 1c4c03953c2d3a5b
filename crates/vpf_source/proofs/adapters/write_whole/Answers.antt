use Rattle.std.proofs.Common.{arith}
use Rattle.std.proofs.lemmas.List.{take_rest}
use Rattle.vpf_source.proofs.Pieces.{goes_on}
use Rattle.vpf_source.proofs.adapters.write_whole.Goals as goal

pub loop-done-preserved : goal.loop-done-preserved
loop-done-preserved g c =
    let kept = c.loop-done.invariant in
    record {
      within = omega (arith, c.in_ok-count.ensures.bound);
      appended = goes_on _ _ _ _ _ _ kept.appended (rw take_rest at c.in_ok-count.ensures.bytes);
    }
