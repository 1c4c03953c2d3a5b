use Rattle.std.proofs.Common.{◌≡◌, ◌≤◌, ◌+◌, ◌-◌, length, drop}
use Rattle.std.specs.Prelude.{IsOk}
use Rattle.vpf_base.specs.Limits.{most_rows}
use Rattle.vpf_table.specs.Reading.{rows_at}
use Rattle.vpf_table.specs.Walking.{rows_of}
use Rattle.vpf_table.specs.Opening.{spans_at, first_other}
use Rattle.vpf_table.proofs.table_file.TableFile.check_entries.Given as goal

abbrev pub invariant-loop-k : goal.invariant-loop-k
invariant-loop-k l = record {
  inside : l.at ≤ length l.self-inside.bytes.now;
  read : IsOk (rows_at (most_rows - l.k) l.self-inside.header.value.order l.self-inside.header.value.columns l.self-inside.bytes.now l.at);
  count : l.k + length (rows_of (rows_at (most_rows - l.k) l.self-inside.header.value.order l.self-inside.header.value.columns l.self-inside.bytes.now l.at)) ≡ length l.index;
  same : first_other l.k (drop l.k l.index) (spans_at (length l.index - l.k) l.self-inside.header.value.order l.self-inside.header.value.columns l.self-inside.bytes.now l.at) ≡ first_other 0 l.index (spans_at (length l.index) l.self-inside.header.value.order l.self-inside.header.value.columns l.self-inside.bytes.now l.self-inside.start);
}
