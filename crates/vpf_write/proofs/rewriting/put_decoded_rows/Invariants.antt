use Rattle.std.proofs.Common.{◌≡◌, ◌≤◌, ◌+◌, length}
use Rattle.std.specs.Prelude.{All}
use Rattle.vpf_base.specs.Limits.{most_bytes}
use Rattle.vpf_table.specs.Canonical.{FitsRow, rows_text}
use Rattle.vpf_write.specs.Inner.Drafts.{progress, with_rows}
use Rattle.vpf_write.proofs.rewriting.put_decoded_rows.Given as goal

abbrev pub invariant-loop-row : goal.invariant-loop-row
invariant-loop-row l = record {
  fits : All (FitsRow l.header.columns) l.row-iterator;
  small : length (progress l.draft).table + length (rows_text l.header.order l.header.columns l.row-iterator) ≤ most_bytes;
  done : with_rows l.header.order l.header.columns (progress l.draft) l.row-iterator ≡ with_rows l.header.order l.header.columns (progress l.fn.draft) l.table.rows;
}
