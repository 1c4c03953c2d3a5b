use Rattle.std.proofs.Common.{refl}
use Rattle.vpf_drill.proofs.grid_cutting.ReadLemmas.{read_to_cut}
use Rattle.vpf_drill.proofs.grid_cutting.WordLemmas.{words_are_text}
use Rattle.vpf_drill.proofs.grid_cutting.laws.grid_is_read_to_cut.Goals as goal

pub returns-clause-asked : goal.returns-clause-asked
returns-clause-asked c = (words_are_text, refl)

pub returns-clause-read : goal.returns-clause-read
returns-clause-read c = read_to_cut c.grid_is_read.ensures c.stops_decide.ensures

pub returns-clause-tables : goal.returns-clause-tables
returns-clause-tables c n = refl
