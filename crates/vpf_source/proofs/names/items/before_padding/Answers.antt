use Rattle.std.proofs.Common.{arith, rules}
use Rattle.vpf_source.proofs.names.Padding.{padding_more, kept_more}
use Rattle.vpf_source.proofs.names.items.before_padding.Goals as goal
use Rattle.vpf_source.proofs.names.items.before_padding.Goals.{then-not-is_padding, else-not-is_padding}

pub loop-i-preserved : goal.loop-i-preserved
loop-i-preserved c =
    elim c.if-not-is_padding.branch [
      | then-not-is_padding w ↦ record { inside = omega arith; kept = rw w.end-is (kept_more c.args.item.now c.loop-i.i (omega arith) (search rules)) }
      | else-not-is_padding w ↦ record { inside = omega arith; kept = rw w.end-is (padding_more c.args.item.now c.loop-i.i c.loop-i.end (omega arith) (search rules) c.loop-i.invariant.kept) }
    ]
