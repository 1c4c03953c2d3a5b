use Rattle.vpf_darts.proofs.OrderLemmas.{numbers_keep_order}
use Rattle.vpf_darts.proofs.laws.numbers_keep_order.Goals as goal

pub returns : goal.returns
returns c = numbers_keep_order
