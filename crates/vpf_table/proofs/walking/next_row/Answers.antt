use Rattle.std.proofs.Common.{sym, arith}
use Rattle.vpf_table.specs.Reading.{row_at}
use Rattle.vpf_table.specs.Walking.{row_of, past_of}
use Rattle.vpf_table.proofs.CellOf.{read_is}
use Rattle.vpf_table.proofs.FixedWidth.{row_len, row_fits}
use Rattle.vpf_table.proofs.walking.next_row.Goals as goal

pub overflow_add-result : goal.overflow_add-result
overflow_add-result c =
    let head = c.args.header.now in
    let r = row_at head.order head.columns c.args.bytes.now c.args.at in
    let fixed = rw c.in-Some.is at c.requires.fixed in
    omega (arith, row_fits c.fixed_cells.ensures head.order head.columns c.args.bytes.now c.args.at (row_of r) (past_of r) c.in-Some.width c.requires.inside fixed (read_is r c.requires.read))

pub returns-in-Some-clause-value : goal.returns-in-Some-clause-value
returns-in-Some-clause-value c =
    let head = c.args.header.now in
    let r = row_at head.order head.columns c.args.bytes.now c.args.at in
    let fixed = rw c.in-Some.is at c.requires.fixed in
    sym (row_len c.fixed_cells.ensures head.order head.columns c.args.bytes.now c.args.at (row_of r) (past_of r) c.in-Some.width fixed (read_is r c.requires.read))

pub returns-in-Some-clause-inside : goal.returns-in-Some-clause-inside
returns-in-Some-clause-inside c =
    let head = c.args.header.now in
    let r = row_at head.order head.columns c.args.bytes.now c.args.at in
    let fixed = rw c.in-Some.is at c.requires.fixed in
    row_fits c.fixed_cells.ensures head.order head.columns c.args.bytes.now c.args.at (row_of r) (past_of r) c.in-Some.width c.requires.inside fixed (read_is r c.requires.read)
