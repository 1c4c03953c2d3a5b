use Rattle.std.proofs.lemmas.List.Elements.{All-rest}
use Rattle.vpf_base.specs.Limits.{most_bytes}
use Rattle.vpf_table.specs.Canonical.{FitsRow}
use Rattle.vpf_write.specs.Inner.Drafts.{progress}
use Rattle.vpf_write.proofs.RowTexts.{row_put, rows_put, row_room, row_fits}
use Rattle.vpf_write.proofs.rewriting.put_decoded_rows.Goals as goal

pub put_row-requires-clause-small : goal.put_row-requires-clause-small
put_row-requires-clause-small c =
    rw (c.deref.ensures.value, c.in_ok-refill.ensures, c.cells.ensures) (row_fits c.args.header.now.order c.args.header.now.columns c.loop-row.row-iterator c.in-Some.row c.next.new.self (progress c.loop-row.draft) most_bytes c.in-Some.ensures.steps c.loop-row.invariant.small)

pub loop-row-preserved : goal.loop-row-preserved
loop-row-preserved c =
    let o = c.args.header.now.order in
    let columns = c.args.header.now.columns in
    let steps = c.in-Some.ensures.steps in
    let put = rw (c.deref.ensures.value, c.in_ok-refill.ensures, c.cells.ensures) at c.in_ok-put_row.ensures in
    record {
      fits = All-rest (FitsRow columns) c.in-Some.row c.next.new.self c.loop-row.row-iterator steps c.loop-row.invariant.fits;
      small = row_room o columns _ c.in-Some.row c.next.new.self (progress c.loop-row.draft) (progress c.put_row.new.self) most_bytes steps put c.loop-row.invariant.small;
      done = row_put o columns _ c.in-Some.row c.next.new.self (progress c.loop-row.draft) (progress c.put_row.new.self) _ steps put c.loop-row.invariant.done;
    }

pub returns : goal.returns
returns c =
    rows_put c.args.header.now.order c.args.header.now.columns (progress c.loop-row.draft) _ c.loop-row.row-iterator c.in-None.ensures.steps.0 c.loop-row.invariant.done
