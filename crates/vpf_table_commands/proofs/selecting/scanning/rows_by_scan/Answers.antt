use Rattle.std.proofs.Common.{◌∙◌, sym}
use Rattle.vpf_table_commands.proofs.Selections.{scanned_there}
use Rattle.vpf_table_commands.proofs.selecting.scanning.rows_by_scan.Goals as goal

pub returns-in-Ok : goal.returns-in-Ok
returns-in-Ok c column e =
    let said = rw (c.as_bytes.ensures.value, c.as_str.ensures) at (sym c.in-Some.is ∙ c.in_ok-value.ensures.value column e) in
    let chosen = rw c.cell.ensures at c.in-Ok.ensures.value in
    rw (scanned_there c.args.request.now c.args.table.now c.args.c column c.in-Some.value c.in-Ok.rows.items said chosen) (rw c.deref.ensures.value at c.found.ensures)
