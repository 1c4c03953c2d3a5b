use Rattle.std.proofs.Common.{◌<◌, length, arith}
use Rattle.vpf_head.proofs.Makings.{takes_one}
use Rattle.vpf_head.proofs.making.columns_of.Goals as goal

pub loop-column-preserved : goal.loop-column-preserved
loop-column-preserved c =
    let lt : c.loop-column.column-index < length c.args.columns.now = omega arith in
    let one = takes_one c.loop-column.named c.args.columns.now c.loop-column.column-index _ _ lt c.loop-column.invariant.each c.loop-column.invariant.done c.requires c.in_ok-insert.ensures.entries in
    record { done = one.done; each = one.each }
