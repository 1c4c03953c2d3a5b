use Rattle.std.proofs.Common.{◌≡◌, ◌++◌, length, map}
use Rattle.std.specs.Prelude.{All}
use Rattle.vpf_prims.specs.Edges.{edge_of}
use Rattle.vpf_prims.proofs.edge_lists.numbers_of.Given as goal

abbrev pub invariant-loop-row : goal.invariant-loop-row
invariant-loop-row l = record {
  edges : l.edges.items ++ map (edge_of l.columns) l.row-iterator ≡ map (edge_of l.columns) l.table.rows;
  width : All (λ row. length row ≡ length l.table.head.columns) l.row-iterator;
}
