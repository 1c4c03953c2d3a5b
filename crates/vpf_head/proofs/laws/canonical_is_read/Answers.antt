use Rattle.vpf_head.proofs.Canonicals.{canonical_spelled, canonical_read, length-in_order}
use Rattle.vpf_head.proofs.laws.canonical_is_read.Goals as goal

pub returns-clause-spelled : goal.returns-clause-spelled
returns-clause-spelled c = λ h s short. canonical_spelled h s short

pub returns-clause-read_again : goal.returns-clause-read_again
returns-clause-read_again c = λ h rest s short. canonical_read h rest s short

pub returns-clause-as_long : goal.returns-clause-as_long
returns-clause-as_long c = λ h order. length-in_order h order
