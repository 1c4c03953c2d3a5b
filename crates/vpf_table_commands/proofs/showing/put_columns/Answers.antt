use Rattle.std.proofs.Common.{◌∙◌}
use Rattle.vpf_head.specs.Inner.Views.{col}
use Rattle.vpf_table_commands.proofs.Lines.{column_put}
use Rattle.vpf_table_commands.proofs.showing.put_columns.Goals as goal

pub loop-c-preserved : goal.loop-c-preserved
loop-c-preserved c = rw c.in_ok-put_column.ensures (column_put _ _ _ (col c.at.result.now) c.at.ensures ∙ c.loop-c.invariant)
