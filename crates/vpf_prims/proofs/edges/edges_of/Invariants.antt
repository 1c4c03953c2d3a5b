use Rattle.std.proofs.Common.{◌≡◌, ◌+◌, ◌++◌, length, map}
use Rattle.std.specs.Prelude.{All}
use Rattle.vpf_table.specs.Firsts.{first_of_rows}
use Rattle.vpf_prims.specs.Edges.{edge_lines, edge_of, edges_finding}
use Rattle.vpf_prims.proofs.edges.edges_of.Given as goal

abbrev pub invariant-loop-row : goal.invariant-loop-row
invariant-loop-row l = record {
  left : first_of_rows (edge_lines l.columns l.most) (l.k + 1) l.row-iterator ≡ edges_finding l.columns l.most l.table.rows;
  edges : l.edges.items ++ map (edge_of l.columns) l.row-iterator ≡ map (edge_of l.columns) l.table.rows;
  width : All (λ row. length row ≡ length l.table.head.columns) l.row-iterator;
  count : l.k + length l.row-iterator ≡ length l.table.rows;
}
