use Rattle.std.proofs.Common.{◌∙◌}
use Rattle.std.proofs.lemmas.Result.{err_from_is_err_and}
use Rattle.vpf_prims.specs.Roles.{ring_roles}
use Rattle.vpf_prims.specs.Suiting.{carried_columns}
use Rattle.vpf_numbers.specs.Around.{columns_in_view}
use Rattle.vpf_numbers.specs.ColumnLines.{bare_line, beside_finding, roles_finding}
use Rattle.vpf_numbers.proofs.TableLemmas.{three_later, three_stop, ring_rows_placed}
use Rattle.vpf_numbers.proofs.tables.check_rings.Goals as goal

pub returns-in_err-id-clause-first : goal.returns-in_err-id-clause-first
returns-in_err-id-clause-first c =
    let p = err_from_is_err_and c.from_residual.result c.from_residual.ensures.1 in
    rw (p.1, p.2) (three_stop (roles_finding c.args.at c.args.table.now.head.columns (columns_in_view c.args.model) ring_roles) (bare_line c.args.at (carried_columns ring_roles c.args.table.now.head.columns)) (beside_finding c.args.at ring_roles c.args.table.now.head.columns (columns_in_view c.args.model)) _ _ c.in_err-id.ensures.first)

pub returns-in_err-check_ring_rows-clause-first : goal.returns-in_err-check_ring_rows-clause-first
returns-in_err-check_ring_rows-clause-first c =
    let placed = ring_rows_placed c.args.at c.args.table.now.head.columns c.in_ok-id.id c.in_ok-id.face c.in_ok-id.edge c.args.faces c.args.edges c.args.table.now.rows c.in_ok-id.ensures.id c.in_ok-id.ensures.face c.in_ok-id.ensures.edge in
    let p = err_from_is_err_and c.from_residual-in_err-check_ring_rows.result c.from_residual-in_err-check_ring_rows.ensures.1 in
    rw (p.1, p.2) (three_later (roles_finding c.args.at c.args.table.now.head.columns (columns_in_view c.args.model) ring_roles) (bare_line c.args.at (carried_columns ring_roles c.args.table.now.head.columns)) (beside_finding c.args.at ring_roles c.args.table.now.head.columns (columns_in_view c.args.model)) _ _ c.in_ok-id.ensures.first (placed ∙ c.in_err-check_ring_rows.ensures))

pub returns-clause-first : goal.returns-clause-first
returns-clause-first c =
    let placed = ring_rows_placed c.args.at c.args.table.now.head.columns c.in_ok-id.id c.in_ok-id.face c.in_ok-id.edge c.args.faces c.args.edges c.args.table.now.rows c.in_ok-id.ensures.id c.in_ok-id.ensures.face c.in_ok-id.ensures.edge in
    three_later (roles_finding c.args.at c.args.table.now.head.columns (columns_in_view c.args.model) ring_roles) (bare_line c.args.at (carried_columns ring_roles c.args.table.now.head.columns)) (beside_finding c.args.at ring_roles c.args.table.now.head.columns (columns_in_view c.args.model)) _ _ c.in_ok-id.ensures.first (placed ∙ c.in_ok-check_ring_rows.ensures)
