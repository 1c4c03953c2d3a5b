use Rattle.std.proofs.Common.{◌∙◌, Err, Ok, ap}
use Rattle.std.proofs.lemmas.Result.{err_from_is_err_and}
use Rattle.vpf_triplet.specs.declared.triplets.Triplet.{Triplet}
use Rattle.vpf_value.specs.Values.{Value, view}
use Rattle.vpf_prims.specs.Columns.{role_at}
use Rattle.vpf_prims.specs.References.{cell_at}
use Rattle.vpf_numbers.specs.Around.{rows_there}
use Rattle.vpf_numbers.proofs.BeyondLemmas.{cross_told}
use Rattle.vpf_numbers.proofs.lines.check_cross.Goals as goal

pub returns-in_err-check_beyond-clause-first : goal.returns-in_err-check_beyond-clause-first
returns-in_err-check_beyond-clause-first c =
    let A = c.args.around.now in
    let column = role_at c.args.column.now in
    let there = c.rows-there.ensures ∙ ap (λ (r : Triplet). rows_there A c.args.name r.tile) c.reference_in-reference.ensures in
    let p = err_from_is_err_and c.from_residual-in_err-check_beyond.result c.from_residual-in_err-check_beyond.ensures.1 in
    rw (p.1, p.2) (cross_told {V = Unit {0}} (Err c.in_err-check_beyond.field-0.0) c.args.at A c.args.name 1 c.args.last c.args.k column (λ (v : Value). A.is_tiled) (view c.next_cell-cell.result) (cell_at c.args.row.now column.place)
    c.rows-there.result c.is_tiled.result c.next_cell-cell.ensures.cell there c.is_tiled.ensures c.in_ok-number_in_cell.ensures.first c.in_err-check_beyond.ensures)

pub returns-clause-first : goal.returns-clause-first
returns-clause-first c =
    let A = c.args.around.now in
    let column = role_at c.args.column.now in
    let there = c.rows-there.ensures ∙ ap (λ (r : Triplet). rows_there A c.args.name r.tile) c.reference_in-reference.ensures in
    cross_told {V = Unit {0}} (Ok tt) c.args.at A c.args.name 1 c.args.last c.args.k column (λ (v : Value). A.is_tiled) (view c.next_cell-cell.result) (cell_at c.args.row.now column.place)
    c.rows-there.result c.is_tiled.result c.next_cell-cell.ensures.cell there c.is_tiled.ensures c.in_ok-number_in_cell.ensures.first c.in_ok-check_beyond.ensures
