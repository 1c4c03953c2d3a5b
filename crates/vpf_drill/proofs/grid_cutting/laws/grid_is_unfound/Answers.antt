use Rattle.vpf_drill.proofs.grid_cutting.UnfoundLemmas.{parts_unfound, unfound}
use Rattle.vpf_drill.proofs.grid_cutting.laws.grid_is_unfound.Goals as goal

pub returns-clause-coverage : goal.returns-clause-coverage
returns-clause-coverage c = unfound c.numbers_decide.ensures.coverage c.agreement_decides.ensures c.grid_agrees.ensures.columns c.grid_agrees.ensures.agrees

pub returns-clause-parts : goal.returns-clause-parts
returns-clause-parts c =
    parts_unfound c.numbers_decide.ensures.coverage c.agreement_decides.ensures c.grid_agrees.ensures.columns c.grid_agrees.ensures.agrees
