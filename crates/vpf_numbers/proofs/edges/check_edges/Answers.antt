use Rattle.std.proofs.Common.{◌≡◌, ◌∙◌, Option, None, Err, sym, ap, subst}
use Rattle.std.proofs.lemmas.Result.{err_from_is_err_and}
use Rattle.vpf_findings.specs.Findings.{Disagreement}
use Rattle.vpf_findings.specs.Firsts.{◌or◌, Tells, first_of_rows}
use Rattle.vpf_prims.specs.Edges.{EdgesAt}
use Rattle.vpf_prims.specs.Roles.{edge_roles}
use Rattle.vpf_numbers.specs.Around.{model_edg}
use Rattle.vpf_numbers.specs.ColumnLines.{beside_finding, roles_finding}
use Rattle.vpf_numbers.specs.RowLines.{edge_row_lines}
use Rattle.vpf_numbers.proofs.TableLemmas.{both_later, tells_both}
use Rattle.vpf_numbers.proofs.edges.check_edges.Goals as goal

pub returns-in_err-columns-clause-first : goal.returns-in_err-columns-clause-first
returns-in_err-columns-clause-first c =
    let p = err_from_is_err_and c.from_residual.result c.from_residual.ensures.1 in
    let columns = c.args.table.now.head.columns in
    let model = model_edg c.args.around.now in
    rw (p.1, p.2) (tells_both c.in_err-columns.field-0.0 (roles_finding c.args.at columns model edge_roles) (beside_finding c.args.at edge_roles columns model) _ (rw (c.header.ensures, c.edg.ensures) at c.in_err-columns.ensures.first))

pub returns-in_err-rows-clause-first : goal.returns-in_err-rows-clause-first
returns-in_err-rows-clause-first c =
    let p = err_from_is_err_and c.from_residual-in_err-rows.result c.from_residual-in_err-rows.ensures.1 in
    let columns = c.args.table.now.head.columns in
    let model = model_edg c.args.around.now in
    let none : (roles_finding c.args.at columns model edge_roles or beside_finding c.args.at edge_roles columns model) ≡ None = rw (c.header.ensures, c.edg.ensures) at c.in_ok-columns.ensures.first in
    let rows = ap (λ (at : EdgesAt). first_of_rows (edge_row_lines c.args.around.now at c.args.most) 1 c.args.table.now.rows) (sym (rw c.header.ensures at c.in_ok-columns.ensures.columns)) in
    rw (p.1, p.2) (subst (λ (found : Option Disagreement). Tells {V = Unit {0}} (Err c.in_err-rows.field-0.0) found)
    (sym (both_later (roles_finding c.args.at columns model edge_roles) (beside_finding c.args.at edge_roles columns model) _ _ none rows)) c.in_err-rows.ensures.first)

pub returns-clause-first : goal.returns-clause-first
returns-clause-first c =
    let columns = c.args.table.now.head.columns in
    let model = model_edg c.args.around.now in
    let none : (roles_finding c.args.at columns model edge_roles or beside_finding c.args.at edge_roles columns model) ≡ None = rw (c.header.ensures, c.edg.ensures) at c.in_ok-columns.ensures.first in
    let rows = ap (λ (at : EdgesAt). first_of_rows (edge_row_lines c.args.around.now at c.args.most) 1 c.args.table.now.rows) (sym (rw c.header.ensures at c.in_ok-columns.ensures.columns)) in
    both_later (roles_finding c.args.at columns model edge_roles) (beside_finding c.args.at edge_roles columns model) _ _ none (rows ∙ c.in_ok-rows.ensures.first)
