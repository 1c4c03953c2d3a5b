use Rattle.std.proofs.Common.{length, ap, ◌∙◌, arith}
use Rattle.std.proofs.lemmas.List.{length-append}
use Rattle.std.proofs.lemmas.List.Elements.{All-rest}
use Rattle.vpf_table.specs.Canonical.{FitsRow, row_text, rows_text}
use Rattle.vpf_write.proofs.RowTexts.{rows_cons, rows_none}
use Rattle.vpf_write.proofs.rewriting.rows_len.Goals as goal

pub loop-row-preserved : goal.loop-row-preserved
loop-row-preserved c =
    let o = c.args.header.now.order in
    let columns = c.args.header.now.columns in
    let steps = c.in-Some.ensures.steps in
    let whole = ap length (rows_cons o columns c.loop-row.row-iterator c.in-Some.row c.next.new.self steps) ∙ length-append (row_text o columns c.in-Some.row) (rows_text o columns c.next.new.self) in
    let len = rw (c.deref.ensures.value, c.in_ok-refill.ensures, c.cells.ensures) at c.cells_len.ensures in
    record {
      fits = All-rest (FitsRow columns) c.in-Some.row c.next.new.self c.loop-row.row-iterator steps c.loop-row.invariant.fits;
      small = omega arith;
      done = omega (arith, whole, len, c.loop-row.invariant.done);
    }

pub returns : goal.returns
returns c =
    let end = ap length (rows_none c.args.header.now.order c.args.header.now.columns c.loop-row.row-iterator c.in-None.ensures.steps.0) in
    omega (arith, end, c.loop-row.invariant.done)
