use Rattle.std.proofs.Common.{refl}
use Rattle.vpf_drill.proofs.worked.PartLemmas.{worked_read}
use Rattle.vpf_drill.proofs.worked.WordLemmas.{words_are_text}
use Rattle.vpf_drill.proofs.worked.laws.worked_is_read.Goals as goal

pub returns : goal.returns
returns c = record { asked = (words_are_text, refl); read = worked_read; tables = refl }
