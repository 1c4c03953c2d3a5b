use Rattle.std.proofs.Common.{◌∙◌, arith, length, ap}
use Rattle.vpf_value.specs.Values.{view}
use Rattle.vpf_head.specs.Inner.Views.{col}
use Rattle.vpf_table_commands.proofs.Lines.{cell_put}
use Rattle.vpf_table_commands.proofs.showing.put_cells.Goals as goal

pub overflow_add-c : goal.overflow_add-c
overflow_add-c c = omega (arith, c.loop-cell.invariant.place, ap length c.in-Some.ensures.steps)

pub loop-cell-preserved : goal.loop-cell-preserved
loop-cell-preserved c = record {
  done = cell_put _ _ c.args.header.now.columns c.loop-cell.c (col c.at.result.now) (view c.in-Some.cell) c.next.new.self c.loop-cell.cell-iterator c.at.ensures c.in-Some.ensures.steps (rw c.in_ok-push_str.ensures.bytes at c.in_ok-put_cell.ensures) ∙ c.loop-cell.invariant.done;
  place = omega (arith, c.loop-cell.invariant.place, ap length c.in-Some.ensures.steps);
}
