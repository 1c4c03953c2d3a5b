use Rattle.std.proofs.Common.{arith}
use Rattle.vpf_table.specs.Reading.{row_at}
use Rattle.vpf_table.specs.Walking.{row_of, past_of}
use Rattle.vpf_table.proofs.CellOf.{length-row}
use Rattle.vpf_table.proofs.row.RowWalk.cell.Goals as goal

pub overflow_add-self : goal.overflow_add-self
overflow_add-self c =
    let w = c.self.inside in
    let o = w.header.now.order in
    let columns = w.header.now.columns in
    let r = row_at o columns w.bytes.now w.begin in
    omega (arith, length-row o columns w.bytes.now w.begin (row_of r) (past_of r) c.self.invariant.read, rw (← c.self.view_is) at c.requires, c.len-columns.ensures)
