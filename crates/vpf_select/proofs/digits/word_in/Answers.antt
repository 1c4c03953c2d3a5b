use Rattle.std.proofs.Common.{sym}
use Rattle.vpf_select.proofs.DigitLemmas.{hex_below}
use Rattle.vpf_select.proofs.digits.word_in.Goals as goal

pub returns-in-119-clause-room : goal.returns-in-119-clause-room
returns-in-119-clause-room c =
    let below = hex_below _ (sym c.if-are_hex.ensures) in
    rw (c.hex_value.ensures, ← c.if-digits-len.true) below
