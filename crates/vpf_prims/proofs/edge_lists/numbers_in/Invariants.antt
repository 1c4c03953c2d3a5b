use Rattle.std.proofs.Common.{◌≡◌, take, length, map}
use Rattle.vpf_prims.specs.Edges.{own_numbers}
use Rattle.vpf_prims.proofs.edge_lists.numbers_in.Given as goal

abbrev pub invariant-loop-row : goal.invariant-loop-row
invariant-loop-row l = record {
  edges : l.edges.items ≡ map own_numbers (take l.row-index l.rows);
  len : length l.edges.items ≡ l.row-index;
}
