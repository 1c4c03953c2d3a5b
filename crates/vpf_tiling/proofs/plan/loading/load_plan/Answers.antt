use Rattle.std.proofs.Common.{refl}
use Rattle.std.proofs.lemmas.Result.{err_from_is_err_and}
use Rattle.vpf_tiling.proofs.plan.PlanLemmas.{plan_are, plan_comes, plan_halts, plan_held}
use Rattle.vpf_tiling.proofs.plan.loading.load_plan.Goals as goal

pub returns-in_err-check_columns-clause-told : goal.returns-in_err-check_columns-clause-told
returns-in_err-check_columns-clause-told g c held e =
    let p = err_from_is_err_and c.from_residual-in_err-check_columns.result c.from_residual-in_err-check_columns.ensures.1 in
    rw (p.1, p.2) (plan_halts c.spelled_is_opened.ensures c.opened_is_read.ensures held c.args.name.now c.args.loaded.now c.required_table.new.loaded c.in_ok-plan.plan
    c.in_ok-plan.plan c.in_err-check_columns.field-0.0 refl (c.in_ok-plan.ensures.told held e) c.in_ok-plan.ensures.are c.in_err-check_columns.ensures.finds)

pub returns-clause-told : goal.returns-clause-told
returns-clause-told g c held e =
    plan_comes c.spelled_is_opened.ensures c.opened_is_read.ensures held c.args.name.now c.args.loaded.now c.required_table.new.loaded c.in_ok-plan.plan
    c.in_ok-plan.plan refl (c.in_ok-plan.ensures.told held e) c.in_ok-plan.ensures.are c.in_ok-check_columns.ensures.finds

pub returns-clause-held : goal.returns-clause-held
returns-clause-held g c held e table n read =
    plan_held c.spelled_is_opened.ensures c.opened_is_read.ensures c.plans_decide.ensures held c.args.name.now c.args.loaded.now c.required_table.new.loaded n
    c.in_ok-plan.plan c.in_ok-plan.plan table refl (c.in_ok-plan.ensures.told held e) c.in_ok-plan.ensures.are c.in_ok-check_columns.ensures.finds read

pub returns-clause-are : goal.returns-clause-are
returns-clause-are g c =
    plan_are c.plans_decide.ensures c.args.name.now c.in_ok-plan.plan c.in_ok-plan.plan refl c.in_ok-plan.ensures.are c.in_ok-check_columns.ensures.finds
