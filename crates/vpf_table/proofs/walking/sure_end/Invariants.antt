use Rattle.std.proofs.Common.{◌≡◌, ◌≤◌, length, drop, Ok}
use Rattle.vpf_table.specs.Reading.{row_at}
use Rattle.vpf_table.specs.Walking.{row_of, past_of}
use Rattle.vpf_table.proofs.walking.sure_end.Given as goal

abbrev pub invariant-loop-i : goal.invariant-loop-i
invariant-loop-i l = record {
  read : row_at l.order (drop l.i l.header.columns) l.bytes l.here ≡ Ok (drop l.i (row_of (row_at l.header.order l.header.columns l.bytes l.fn.at)), past_of (row_at l.header.order l.header.columns l.bytes l.fn.at));
  order : l.order ≡ l.header.order;
  inside : l.here ≤ length l.bytes;
}
