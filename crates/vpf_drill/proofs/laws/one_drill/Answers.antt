use Rattle.vpf_drill.proofs.AnswerLemmas as lemmas
use Rattle.vpf_drill.proofs.laws.one_drill.Goals as goal

pub returns-clause-some : goal.returns-clause-some
returns-clause-some c = lemmas.has_drill c.grid_is_tiled.ensures.tiled c.one_trace.ensures.some

pub returns-clause-one : goal.returns-clause-one
returns-clause-one c = lemmas.one_drill c.one_trace.ensures.one
