use Rattle.std.proofs.Common.{◌≡◌, ◌≤◌, ◌-◌, length, drop}
use Rattle.std.specs.Prelude.{IsOk}
use Rattle.vpf_base.specs.Limits.{most_rows}
use Rattle.vpf_table.specs.Reading.{rows_at}
use Rattle.vpf_table.specs.Walking.{rows_of}
use Rattle.vpf_table.proofs.table_file.TableFile.walked_place.Given as goal

abbrev pub invariant-loop-i : goal.invariant-loop-i
invariant-loop-i l = record {
  inside : l.at ≤ length l.self-inside.bytes.now;
  read : IsOk (rows_at (most_rows - l._i) l.self-inside.header.value.order l.self-inside.header.value.columns l.self-inside.bytes.now l.at);
  rest : rows_of (rows_at (most_rows - l._i) l.self-inside.header.value.order l.self-inside.header.value.columns l.self-inside.bytes.now l.at) ≡ drop l._i (rows_of (rows_at most_rows l.self-inside.header.value.order l.self-inside.header.value.columns l.self-inside.bytes.now l.self-inside.start));
}
