use Rattle.std.proofs.Common.{◌∙◌, sym}
use Rattle.std.proofs.lemmas.Result.{err_from_is_err_and}
use Rattle.std.proofs.lemmas.List.Elements.{All-push}
use Rattle.vpf_prims.specs.declared.placing.RoleColumn.{RoleColumn}
use Rattle.std.proofs.Common.{length}
use Rattle.vpf_prims.specs.Columns.{IsWithin, role_at}
use Rattle.vpf_prims.proofs.PlacedLemmas.{placed_pass, placed_stop, placed_more}
use Rattle.vpf_prims.proofs.placing.place_roles.Goals as goal

pub returns-in_err-place_role-clause-first : goal.returns-in_err-place_role-clause-first
returns-in_err-place_role-clause-first c =
    let p = err_from_is_err_and c.from_residual-in_err-place_role.result c.from_residual-in_err-place_role.ensures.1 in
    rw (p.1, p.2) (sym c.loop-role.invariant.left ∙ placed_stop c.args.at c.args.header.now.columns c.args.roles.now c.loop-role.role-index _ _ c.loop-role-test.true c.in_err-place_role.ensures.first)

pub loop-role-preserved : goal.loop-role-preserved
loop-role-preserved c =
    let i = c.loop-role.invariant in
    let columns = c.args.header.now.columns in
    record {
      left = placed_pass c.args.at columns c.args.roles.now c.loop-role.role-index _ c.loop-role-test.true c.in_ok-place_role.ensures.first ∙ i.left;
      columns = placed_more columns c.args.roles.now c.loop-role.role-index _ c.loop-role.columns.items c.push.new.self.items c.in_ok-place_role.field-0 _ c.loop-role-test.true c.in_ok-push.ensures.items c.in_ok-place_role.ensures.column i.columns;
      within = rw c.in_ok-push.ensures.items (All-push (λ (column : RoleColumn). IsWithin (length columns) (role_at column)) c.loop-role.columns.items c.in_ok-place_role.field-0 i.within c.in_ok-place_role.ensures.within);
    }
