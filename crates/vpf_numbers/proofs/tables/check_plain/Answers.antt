use Rattle.std.proofs.Common.{◌∙◌, [], ◌∷◌, map}
use Rattle.std.specs.Prelude.{codes}
use Rattle.std.proofs.lemmas.Result.{err_from_is_err_and}
use Rattle.vpf_prims.specs.Roles.{number_role, role_of}
use Rattle.vpf_numbers.specs.Around.{columns_in_view}
use Rattle.vpf_numbers.specs.ColumnLines.{beside_finding, roles_finding}
use Rattle.vpf_numbers.proofs.TableLemmas.{both_later, both_stop, plain_rows_placed}
use Rattle.vpf_numbers.proofs.tables.check_plain.Goals as goal

pub returns-in_err-id-clause-first : goal.returns-in_err-id-clause-first
returns-in_err-id-clause-first c =
    let p = err_from_is_err_and c.from_residual.result c.from_residual.ensures.1 in
    rw (p.1, p.2) (both_stop (roles_finding c.args.at c.args.table.now.head.columns (columns_in_view c.args.model) (number_role (codes "id") ∷ role_of c.args.reference.now ∷ [])) (beside_finding c.args.at (map role_of c.args.roles.now) c.args.table.now.head.columns (columns_in_view c.args.model)) _ _ c.in_err-id.ensures.first)

pub returns-in_err-check_plain_rows-clause-first : goal.returns-in_err-check_plain_rows-clause-first
returns-in_err-check_plain_rows-clause-first c =
    let placed = plain_rows_placed c.args.at c.args.table.now.head.columns (role_of c.args.reference.now) c.in_ok-id.id c.in_ok-id.column c.args.last c.args.table.now.rows c.in_ok-id.ensures.id c.in_ok-id.ensures.column in
    let p = err_from_is_err_and c.from_residual-in_err-check_plain_rows.result c.from_residual-in_err-check_plain_rows.ensures.1 in
    rw (p.1, p.2) (both_later (roles_finding c.args.at c.args.table.now.head.columns (columns_in_view c.args.model) (number_role (codes "id") ∷ role_of c.args.reference.now ∷ [])) (beside_finding c.args.at (map role_of c.args.roles.now) c.args.table.now.head.columns (columns_in_view c.args.model)) _ _ c.in_ok-id.ensures.first (placed ∙ c.in_err-check_plain_rows.ensures))

pub returns-clause-first : goal.returns-clause-first
returns-clause-first c =
    let placed = plain_rows_placed c.args.at c.args.table.now.head.columns (role_of c.args.reference.now) c.in_ok-id.id c.in_ok-id.column c.args.last c.args.table.now.rows c.in_ok-id.ensures.id c.in_ok-id.ensures.column in
    both_later (roles_finding c.args.at c.args.table.now.head.columns (columns_in_view c.args.model) (number_role (codes "id") ∷ role_of c.args.reference.now ∷ [])) (beside_finding c.args.at (map role_of c.args.roles.now) c.args.table.now.head.columns (columns_in_view c.args.model)) _ _ c.in_ok-id.ensures.first (placed ∙ c.in_ok-check_plain_rows.ensures)
