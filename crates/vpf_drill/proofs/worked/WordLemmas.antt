-- The words of the request are text.
use Rattle.std.proofs.Common.{codes, refl}
use Rattle.std.specs.Prelude.{IsUtf8}
use Rattle.std.specs.List.{AllByRecursion}
use Rattle.vpf_drill.specs.Inner.Worked.Request.{worked_words}
use Rattle.vpf_drill.proofs.grid_cutting.WordLemmas.{text_tested}

pub words_are_text : AllByRecursion IsUtf8 worked_words
words_are_text = (text_tested (codes "land") refl, (text_tested (codes "roads") refl, (text_tested (codes "out") refl, tt)))
