use Rattle.std.proofs.Common.{sym, arith}
use Rattle.vpf_head.specs.Inner.Views.{col}
use Rattle.vpf_table.proofs.FixedWidth.{cell_past}
use Rattle.vpf_table.proofs.walking.sure_past.Goals as goal

pub overflow_add-result : goal.overflow_add-result
overflow_add-result c =
    let width = sym (rw c.in-Some.is at c.cell_width.ensures) in
    omega (arith, (cell_past c.fixed_cells.ensures c.args.order (col c.args.column.now) c.args.bytes.now c.args.at c.in-Some.width width c.requires.inside c.requires.read).1)

pub returns-in-Some-clause-exact : goal.returns-in-Some-clause-exact
returns-in-Some-clause-exact c =
    let width = sym (rw c.in-Some.is at c.cell_width.ensures) in
    (cell_past c.fixed_cells.ensures c.args.order (col c.args.column.now) c.args.bytes.now c.args.at c.in-Some.width width c.requires.inside c.requires.read).0

pub returns-in-Some-clause-inside : goal.returns-in-Some-clause-inside
returns-in-Some-clause-inside c =
    let width = sym (rw c.in-Some.is at c.cell_width.ensures) in
    (cell_past c.fixed_cells.ensures c.args.order (col c.args.column.now) c.args.bytes.now c.args.at c.in-Some.width width c.requires.inside c.requires.read).1
