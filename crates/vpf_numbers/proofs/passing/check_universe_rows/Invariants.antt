use Rattle.std.proofs.Common.{◌≡◌, ◌+◌, length}
use Rattle.std.specs.Prelude.{All}
use Rattle.vpf_findings.specs.Firsts.{first_of_rows}
use Rattle.vpf_prims.specs.Columns.{role_at}
use Rattle.vpf_numbers.specs.RowLines.{universe_rows_line}
use Rattle.vpf_numbers.proofs.passing.check_universe_rows.Given as goal

abbrev pub invariant-loop-row : goal.invariant-loop-row
invariant-loop-row l = record {
  left : first_of_rows (universe_rows_line l.at (role_at l.id) (role_at l.column) l.last) (l.k + 1) l.row-iterator ≡ first_of_rows (universe_rows_line l.at (role_at l.id) (role_at l.column) l.last) 1 l.table.rows;
  width : All (λ row. length row ≡ length l.table.head.columns) l.row-iterator;
  count : l.k + length l.row-iterator ≡ length l.table.rows;
}
