use Rattle.std.proofs.Common.{◌≡◌, ◌-◌, ◌≤◌, length}
use Rattle.vpf_base.specs.Limits.{most_rows}
use Rattle.vpf_table.specs.Reading.{rows_at}
use Rattle.vpf_table.specs.Walking.{counted}
use Rattle.vpf_table.proofs.counting.walked_count.Given as goal

abbrev pub invariant-loop-here : goal.invariant-loop-here
invariant-loop-here l = record {
  same : counted l.rows (rows_at (most_rows - l.rows) l.header.order l.header.columns l.bytes l.here) ≡ counted 0 (rows_at most_rows l.header.order l.header.columns l.bytes l.fn.at);
  most : l.rows ≤ most_rows;
  inside : l.here ≤ length l.bytes;
}

abbrev pub decreases-loop-here : goal.decreases-loop-here
decreases-loop-here l = most_rows - l.rows
