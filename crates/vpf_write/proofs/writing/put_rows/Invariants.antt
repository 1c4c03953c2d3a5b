use Rattle.std.proofs.Common.{◌≡◌, ◌-◌, drop, length}
use Rattle.std.specs.Prelude.{All}
use Rattle.vpf_table.specs.Canonical.{FitsRow}
use Rattle.vpf_write.specs.Inner.Cuts.{cut}
use Rattle.vpf_write.proofs.Tallied.{IsPutSoFar}
use Rattle.vpf_write.proofs.writing.put_rows.Given as goal

abbrev pub invariant-loop-r : goal.invariant-loop-r
invariant-loop-r l = record {
  head : l.writer.head ≡ l.fn.writer.head;
  fits : All (FitsRow l.fn.writer.head.columns) (cut (length l.fn.writer.head.columns) (l.rows - l._r) (drop l.from l.cells));
  put : IsPutSoFar l.writer (cut (length l.fn.writer.head.columns) (l.rows - l._r) (drop l.from l.cells)) (cut (length l.fn.writer.head.columns) l.rows l.cells);
}
