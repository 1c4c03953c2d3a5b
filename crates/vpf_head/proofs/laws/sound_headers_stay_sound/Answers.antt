use Rattle.vpf_head.proofs.SoundLaws.{header_sound, in_order, in_kind}
use Rattle.vpf_head.proofs.laws.sound_headers_stay_sound.Goals as goal

pub returns-clause-as_read : goal.returns-clause-as_read
returns-clause-as_read c = λ bytes h start order e. in_order h order (header_sound bytes h start e)

pub returns-clause-in_each_order : goal.returns-clause-in_each_order
returns-clause-in_each_order c = λ h order s. in_order h order s

pub returns-clause-in_each_kind : goal.returns-clause-in_each_kind
returns-clause-in_each_kind c = λ h i kind one names_them s. in_kind h i kind one names_them s
