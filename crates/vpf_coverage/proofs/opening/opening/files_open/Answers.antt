use Rattle.vpf_coverage.proofs.opening.TileLemmas.{files_open}
use Rattle.vpf_coverage.proofs.opening.opening.files_open.Goals as goal

pub returns : goal.returns
returns c = files_open c.spelled_is_opened.ensures c.opened_is_read.ensures c.stops_decide.ensures
