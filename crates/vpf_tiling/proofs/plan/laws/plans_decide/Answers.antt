use Rattle.vpf_tiling.proofs.plan.PlanDecides.{plans_decide}
use Rattle.vpf_tiling.proofs.plan.laws.plans_decide.Goals as goal

pub returns : goal.returns
returns c = plans_decide
