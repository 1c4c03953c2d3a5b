use Rattle.vpf_head.proofs.Canonicals.{canonical_spelled}
use Rattle.vpf_head.proofs.Makings.{made, spelled_made}
use Rattle.vpf_head.proofs.laws.spelled_parts_make_a_header.Goals as goal

pub returns-clause-as_given : goal.returns-clause-as_given
returns-clause-as_given c = λ given k e. let m = made given k e in (m.is, m.sound, m.spelled)

pub returns-clause-spelled : goal.returns-clause-spelled
returns-clause-spelled c = λ given s. spelled_made given s

pub returns-clause-sound : goal.returns-clause-sound
returns-clause-sound c = λ given s short. spelled_made given (canonical_spelled given s short)
