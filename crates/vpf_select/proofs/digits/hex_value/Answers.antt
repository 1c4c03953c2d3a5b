use Rattle.std.proofs.Common.{◌<◌, length, arith}
use Rattle.std.proofs.lemmas.Int.Digits.{digits_value_more}
use Rattle.vpf_select.proofs.DigitLemmas.{hex_at, hex_room}
use Rattle.vpf_select.proofs.digits.hex_value.Goals as goal

pub hex_digit-requires : goal.hex_digit-requires
hex_digit-requires c =
    let lt : c.loop-digit.digit-index < length c.args.digits.now = omega arith in
    hex_at c.args.digits.now c.loop-digit.digit-index lt c.requires.digits

pub overflow_mul-value : goal.overflow_mul-value
overflow_mul-value c =
    let lt : c.loop-digit.digit-index < length c.args.digits.now = omega arith in
    let room = hex_room c.args.digits.now c.loop-digit.digit-index lt c.requires.few c.requires.digits in
    omega (arith, room, c.loop-digit.invariant)

pub overflow_add-value : goal.overflow_add-value
overflow_add-value c =
    let lt : c.loop-digit.digit-index < length c.args.digits.now = omega arith in
    let room = hex_room c.args.digits.now c.loop-digit.digit-index lt c.requires.few c.requires.digits in
    omega (arith, room, c.loop-digit.invariant, c.hex_digit.ensures.value, c.from.ensures)

pub loop-digit-preserved : goal.loop-digit-preserved
loop-digit-preserved c =
    let lt : c.loop-digit.digit-index < length c.args.digits.now = omega arith in
    let more = digits_value_more 16 c.args.digits.now c.loop-digit.digit-index lt in
    omega (arith, more, c.loop-digit.invariant, c.hex_digit.ensures.value, c.from.ensures)
