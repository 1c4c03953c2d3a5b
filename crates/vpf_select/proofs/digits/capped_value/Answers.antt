use Rattle.std.proofs.Common.{◌<◌, length, arith}
use Rattle.vpf_base.proofs.Digits.{one_digit_more}
use Rattle.vpf_select.proofs.digits.capped_value.Goals as goal

pub loop-digit-preserved : goal.loop-digit-preserved
loop-digit-preserved c =
    let lt : c.loop-digit.digit-index < length c.args.digits.now = omega arith in
    let more = one_digit_more c.args.digits.now c.loop-digit.digit-index lt c.requires in
    rw more.2 (omega (arith, more.0, more.1, c.min-value.ensures, c.from.ensures, c.loop-digit.invariant))
