use Rattle.vpf_head.proofs.SoundLaws.{header_sound}
use Rattle.vpf_head.proofs.laws.read_headers_are_sound.Goals as goal

pub returns : goal.returns
returns c = λ bytes h start e. header_sound bytes h start e
