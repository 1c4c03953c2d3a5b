use Rattle.std.proofs.Common.{◌≡◌, ◌≤◌, length, drop}
use Rattle.vpf_table.specs.Reading.{row_at}
use Rattle.vpf_table.specs.Walking.{end_of}
use Rattle.vpf_table.proofs.walking.skip_row.Given as goal

abbrev pub invariant-loop-i : goal.invariant-loop-i
invariant-loop-i l = record {
  same : end_of (row_at l.order (drop l.i l.header.columns) l.bytes l.here) ≡ end_of (row_at l.fn.header.order l.fn.header.columns l.bytes l.fn.at);
  order : l.order ≡ l.header.order;
  inside : l.here ≤ length l.bytes;
}
