use Rattle.std.proofs.Common.{sym}
use Rattle.vpf_select.proofs.ScanLemmas.{cell_seen}
use Rattle.vpf_select.proofs.rows.cell_counted.Goals as goal

pub returns : goal.returns
returns g c = sym (cell_seen c.args.table.now c.args.column c.args.row c.row.result _ c.row.ensures.row c.cell.ensures)
