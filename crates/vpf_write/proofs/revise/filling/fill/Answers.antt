use Rattle.std.proofs.Common.{length, ap, arith}
use Rattle.std.proofs.lemmas.List.{length-set}
use Rattle.vpf_write.proofs.revise.Turns.{filled}
use Rattle.vpf_write.proofs.revise.filling.fill.Goals as goal

pub loop-c-preserved : goal.loop-c-preserved
loop-c-preserved c =
    let steps = c.in-Some.ensures.steps in
    record {
      many = rw length-set (omega (arith, ap length steps.0));
      done = rw steps.1 (filled c.loop-c.cells c.next.new.self.iter c.loop-c.c-iterator.iter _ c.loop-c.c-iterator.count c.next.new.self.count c.in-Some.cell steps.0 steps.2 c.loop-c.invariant.many c.loop-c.invariant.done);
    }
