use Rattle.std.proofs.Common.{◌∙◌, sym}
use Rattle.std.proofs.lemmas.Result.{err_from_is_err_and}
use Rattle.vpf_numbers.specs.Around.{columns_in_view}
use Rattle.vpf_numbers.proofs.CarriedLemmas.{roles_left, roles_stop}
use Rattle.vpf_numbers.proofs.columns.check_roles.Goals as goal

pub returns-in_err-check_role : goal.returns-in_err-check_role
returns-in_err-check_role c =
    let p = err_from_is_err_and c.from_residual.result c.from_residual.ensures.1 in
    rw (p.1, p.2) (sym c.loop-role.invariant ∙ roles_stop c.args.at c.args.header.now.columns (columns_in_view c.args.model) c.args.roles.now c.loop-role.role-index _ _ c.loop-role-test.true c.in_err-check_role.ensures.first)

pub loop-role-preserved : goal.loop-role-preserved
loop-role-preserved c =
    roles_left c.args.at c.args.header.now.columns (columns_in_view c.args.model) c.args.roles.now c.loop-role.role-index _ c.loop-role-test.true c.in_ok-check_role.ensures.first ∙ c.loop-role.invariant
