use Rattle.std.proofs.Common.{ap, ◌∙◌, map, arith}
use Rattle.std.specs.List.{range_with_len}
use Rattle.vpf_vectors.specs.Cells.Rows.{row_of_edge}
use Rattle.vpf_vectors.proofs.cells.CodeLemmas.{all_edges}
use Rattle.vpf_vectors.proofs.cells.grids.edge_rows.Goals as goal

pub returns : goal.returns
returns c = c.loop-x.invariant ∙ ap (λ k. map (row_of_edge c.args.n) (range_with_len 1 k)) (all_edges c.args.n c.loop-x.x (omega arith))
