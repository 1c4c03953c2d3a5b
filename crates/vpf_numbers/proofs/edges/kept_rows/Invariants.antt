use Rattle.std.proofs.Common.{◌≡◌, ◌+◌, ◌++◌, length, map}
use Rattle.std.specs.Prelude.{All}
use Rattle.vpf_findings.specs.Firsts.{first_of_rows}
use Rattle.vpf_prims.specs.Edges.{edge_row}
use Rattle.vpf_numbers.specs.RowLines.{edge_row_lines}
use Rattle.vpf_numbers.proofs.edges.kept_rows.Given as goal

abbrev pub invariant-loop-row : goal.invariant-loop-row
invariant-loop-row l = record {
  left : first_of_rows (edge_row_lines l.around l.columns l.most) (l.k + 1) l.row-iterator ≡ first_of_rows (edge_row_lines l.around l.columns l.most) 1 l.table.rows;
  said : l.said.items ++ map (edge_row l.columns) l.row-iterator ≡ map (edge_row l.columns) l.table.rows;
  width : All (λ row. length row ≡ length l.table.head.columns) l.row-iterator;
  count : l.k + length l.row-iterator ≡ length l.table.rows;
}
