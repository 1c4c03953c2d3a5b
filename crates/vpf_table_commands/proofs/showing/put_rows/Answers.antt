use Rattle.std.proofs.Common.{◌≡◌, ◌∙◌, arith, length, ap}
use Rattle.std.proofs.lemmas.List.Elements.{All-rest}
use Rattle.vpf_table.specs.Grid.{Row}
use Rattle.vpf_table_commands.proofs.Lines.{row_put}
use Rattle.vpf_table_commands.proofs.showing.put_rows.Goals as goal

pub overflow_add-number : goal.overflow_add-number
overflow_add-number c = omega (arith, c.loop-row.invariant.count, ap length c.in-Some.ensures.steps)

pub loop-row-preserved : goal.loop-row-preserved
loop-row-preserved c =
    let columns = c.args.table.now.head.columns in
    let put = rw c.loop-row.invariant.header at c.in_ok-put_row.ensures in
    record {
      done = rw put (row_put _ columns c.loop-row.number c.in-Some.row c.next.new.self c.loop-row.row-iterator c.in-Some.ensures.steps ∙ c.loop-row.invariant.done);
      width = All-rest (λ (row : Row). length row ≡ length columns) c.in-Some.row c.next.new.self c.loop-row.row-iterator c.in-Some.ensures.steps c.loop-row.invariant.width;
      count = omega (arith, c.loop-row.invariant.count, ap length c.in-Some.ensures.steps);
      header = c.loop-row.invariant.header;
    }
