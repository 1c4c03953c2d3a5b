use Rattle.vpf_tiling.proofs.plan.PlanLemmas.{is_plan}
use Rattle.vpf_tiling.proofs.plan.loading.open_plan.Goals as goal

pub returns-clause-plan : goal.returns-clause-plan
returns-clause-plan c =
    let name = c.requires.0 in
    let grid = c.requires.1.0 in
    let are = c.requires.1.1 in
    is_plan grid c.only.result (c.only.ensures name grid are.are) are.plan
