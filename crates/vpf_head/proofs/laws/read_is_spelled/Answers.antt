use Rattle.vpf_head.proofs.HeaderLaws.{header_takes, header_spelled}
use Rattle.vpf_head.proofs.laws.read_is_spelled.Goals as goal

pub returns : goal.returns
returns c = λ bytes h start fits e. ((header_takes bytes h start e).inside, header_spelled bytes h start fits e)
