use Rattle.std.proofs.Common.{◌≡◌, ◌++◌, ◌+◌, length, string_bytes}
use Rattle.std.specs.Prelude.{All}
use Rattle.vpf_table_commands.specs.Show.{row_lines}
use Rattle.vpf_table_commands.proofs.showing.put_rows.Given as goal

abbrev pub invariant-loop-row : goal.invariant-loop-row
invariant-loop-row l = record {
  done : string_bytes l.text ++ row_lines l.table.head.columns l.number l.row-iterator ≡ string_bytes l.fn.text ++ row_lines l.table.head.columns 0 l.table.rows;
  width : All (λ row. length row ≡ length l.table.head.columns) l.row-iterator;
  count : l.number + length l.row-iterator ≡ length l.table.rows;
  header : l.header ≡ l.table.head;
}
