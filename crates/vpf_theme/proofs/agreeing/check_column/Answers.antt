use Rattle.std.proofs.Common.{◌∙◌, sym, length}
use Rattle.std.proofs.lemmas.List.{length-map}
use Rattle.std.proofs.lemmas.Result.{err_from_is_err_and}
use Rattle.vpf_value.specs.Values.{view}
use Rattle.vpf_head.specs.Inner.Views.{col}
use Rattle.vpf_theme.specs.Findings.{cells_of, entries_finding, missing_line}
use Rattle.vpf_theme.proofs.AgreeLemmas.{agree_left, agree_entries, fits_at, fits_rows, tells_or, length-cells}
use Rattle.vpf_theme.proofs.agreeing.check_column.Goals as goal

pub returns-in_err-check_missing : goal.returns-in_err-check_missing
returns-in_err-check_missing c =
    let t = c.args.theme.now in
    let grid = c.args.table.now in
    let column = col c.at-found.result.now in
    let is = rw c.header-header.ensures at c.at-found.ensures in
    let fits = fits_at t grid c.args.column column is c.in_default.ensures in
    let p = err_from_is_err_and c.from_residual-in_err-check_missing.result c.from_residual-in_err-check_missing.ensures.1 in
    rw (p.1, p.2, agree_left t grid c.args.column column is fits) (tells_or (Unit {0}) c.in_err-check_missing.field-0.0 (missing_line t column t.rows) (entries_finding t column (cells_of grid c.args.column)) c.in_err-check_missing.ensures)

pub check_entries-requires : goal.check_entries-requires
check_entries-requires c =
    let t = c.args.theme.now in
    let grid = c.args.table.now in
    let column = col c.at-found.result.now in
    let is = rw c.header-header.ensures at c.at-found.ensures in
    let r = fits_rows t column (length grid.rows) (fits_at t grid c.args.column column is c.in_default.ensures) in
    let n = sym (length-map c.in_ok-cells.cells.items view) in
    let m = rw c.in_ok-cells.ensures at n in
    r ∙ sym (rw c.deref.ensures.value (m ∙ length-cells grid c.args.column))

pub returns : goal.returns
returns c =
    let t = c.args.theme.now in
    let grid = c.args.table.now in
    let column = col c.at-found.result.now in
    let is = rw c.header-header.ensures at c.at-found.ensures in
    let fits = fits_at t grid c.args.column column is c.in_default.ensures in
    rw (agree_entries t grid c.args.column column is fits c.in_ok-check_missing.ensures) (rw (c.deref.ensures.value, c.in_ok-cells.ensures) at c.check_entries.ensures)
