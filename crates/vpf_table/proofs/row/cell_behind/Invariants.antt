use Rattle.std.proofs.Common.{◌≡◌, ◌≤◌, length}
use Rattle.vpf_table.specs.Reading.{row_at}
use Rattle.vpf_table.specs.Inner.RowWalks.{IsLeft}
use Rattle.vpf_table.proofs.row.cell_behind.Given as goal

abbrev pub invariant-loop-i : goal.invariant-loop-i
invariant-loop-i l = record {
  left : IsLeft l.order l.header.columns l.bytes (row_at l.header.order l.header.columns l.bytes l.begin) l.i l.here;
  order : l.order ≡ l.header.order;
  inside : l.here ≤ length l.bytes;
}
