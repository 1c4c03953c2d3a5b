use Rattle.vpf_table.proofs.SpanLaws.{opened_is_read}
use Rattle.vpf_table.proofs.laws.opened_is_read.Goals as goal

pub returns : goal.returns
returns c = λ bytes index g e. opened_is_read bytes index g e
