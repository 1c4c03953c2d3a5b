use Rattle.std.proofs.Common.{ap, ◌∙◌, map, arith}
use Rattle.std.specs.List.{range_with_len}
use Rattle.vpf_vectors.specs.Cells.Rows.{first_edge}
use Rattle.vpf_vectors.proofs.cells.CodeLemmas.{put, among_nodes, all_nodes}
use Rattle.vpf_vectors.proofs.cells.grids.node_rows.Goals as goal

pub first_edge-requires-clause-most : goal.first_edge-requires-clause-most
first_edge-requires-clause-most c = among_nodes c.args.n c.loop-node.node (omega arith)

pub loop-node-preserved : goal.loop-node-preserved
loop-node-preserved c = put (first_edge c.args.n) 1 c.loop-node.node c.loop-node.rows.items c.push.new.self.items c.first_edge.result
    (omega arith) c.in_ok-push.ensures.items c.loop-node.invariant c.first_edge.ensures

pub returns : goal.returns
returns c = c.loop-node.invariant ∙ ap (λ k. map (first_edge c.args.n) (range_with_len 1 k)) (all_nodes c.args.n c.loop-node.node (omega arith))
