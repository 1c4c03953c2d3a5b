use Rattle.vpf_select.proofs.WordLemmas.{word_fits}
use Rattle.vpf_select.proofs.laws.words_fit.Goals as goal

pub returns : goal.returns
returns c = word_fits
