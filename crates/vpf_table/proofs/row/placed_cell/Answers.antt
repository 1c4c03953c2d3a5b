use Rattle.std.proofs.Common.{arith}
use Rattle.vpf_table.specs.Reading.{row_at}
use Rattle.vpf_table.specs.Walking.{row_of, past_of}
use Rattle.vpf_table.proofs.CellOf.{read_is}
use Rattle.vpf_table.proofs.OffsetLaws.{left_behind}
use Rattle.vpf_table.proofs.row.placed_cell.Goals as goal

pub overflow_add-result : goal.overflow_add-result
overflow_add-result c =
    let h = c.args.header.now in
    let r = row_at h.order h.columns c.args.bytes.now c.args.begin in
    omega (arith, (left_behind c.fixed_cells.ensures c.placed-column.result.0 h.order h.columns c.args.bytes.now c.args.begin c.placed-column.result.1 (row_of r) (past_of r) c.placed-column.ensures.width c.requires.inside (read_is r c.requires.row)).1)

pub returns-clause-left : goal.returns-clause-left
returns-clause-left c =
    let h = c.args.header.now in
    let r = row_at h.order h.columns c.args.bytes.now c.args.begin in
    (left_behind c.fixed_cells.ensures c.placed-column.result.0 h.order h.columns c.args.bytes.now c.args.begin c.placed-column.result.1 (row_of r) (past_of r) c.placed-column.ensures.width c.requires.inside (read_is r c.requires.row)).0

pub returns-clause-inside : goal.returns-clause-inside
returns-clause-inside c =
    let h = c.args.header.now in
    let r = row_at h.order h.columns c.args.bytes.now c.args.begin in
    (left_behind c.fixed_cells.ensures c.placed-column.result.0 h.order h.columns c.args.bytes.now c.args.begin c.placed-column.result.1 (row_of r) (past_of r) c.placed-column.ensures.width c.requires.inside (read_is r c.requires.row)).1
