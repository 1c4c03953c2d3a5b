use Rattle.std.proofs.Common.{◌≡◌, ◌++◌, length, map}
use Rattle.std.specs.Prelude.{All}
use Rattle.vpf_prims.specs.Edges.{edge_row}
use Rattle.vpf_prims.proofs.edge_lists.rows_of.Given as goal

abbrev pub invariant-loop-row : goal.invariant-loop-row
invariant-loop-row l = record {
  rows : l.rows.items ++ map (edge_row l.columns) l.row-iterator ≡ map (edge_row l.columns) l.table.rows;
  width : All (λ row. length row ≡ length l.table.head.columns) l.row-iterator;
}
