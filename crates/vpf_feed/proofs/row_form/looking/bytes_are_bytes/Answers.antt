use Rattle.std.proofs.Common.{arith}
use Rattle.vpf_feed.proofs.row_form.looking.bytes_are_bytes.Goals as goal

pub returns : goal.returns
returns c = λ i. omega (arith, c.type_inv.bytes i)
