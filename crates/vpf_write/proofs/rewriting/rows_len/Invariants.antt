use Rattle.std.proofs.Common.{◌≡◌, ◌<◌, ◌+◌, ◌-◌, ◌^◌, length}
use Rattle.std.specs.Prelude.{min, All}
use Rattle.vpf_table.specs.Canonical.{FitsRow, rows_text}
use Rattle.vpf_write.proofs.rewriting.rows_len.Given as goal

abbrev pub invariant-loop-row : goal.invariant-loop-row
invariant-loop-row l = record {
  fits : All (FitsRow l.header.columns) l.row-iterator;
  small : l.sum < 2 ^ 64;
  done : min (l.sum + length (rows_text l.header.order l.header.columns l.row-iterator)) (2 ^ 64 - 1) ≡ min (length (rows_text l.header.order l.header.columns l.table.rows)) (2 ^ 64 - 1);
}
