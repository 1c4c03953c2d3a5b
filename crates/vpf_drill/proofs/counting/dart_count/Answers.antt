use Rattle.std.proofs.Common.{arith}
use Rattle.vpf_drill.proofs.ListLemmas.{one_more}
use Rattle.vpf_drill.proofs.counting.dart_count.Goals as goal

pub loop-i-preserved : goal.loop-i-preserved
loop-i-preserved c =
    let more = one_more c.args.listing.now c.loop-i.i c.at.result.now c.at.ensures in
    record {
      counted = omega (arith, more, c.loop-i.invariant.counted);
      few = omega (arith, c.loop-i.invariant.few, c.at.type_inv);
    }
