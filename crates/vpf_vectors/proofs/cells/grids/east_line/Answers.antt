use Rattle.std.proofs.Common.{◌+◌, ◌*◌, ◌++◌, ◌∷◌, [], ap, ◌∙◌, map, arith}
use Rattle.std.specs.List.{range_with_len}
use Rattle.vpf_vectors.specs.Cells.Rows.{row_of_edge}
use Rattle.vpf_vectors.proofs.cells.CodeLemmas.{more_east}
use Rattle.vpf_vectors.proofs.cells.grids.east_line.Goals as goal

pub loop-x-preserved : goal.loop-x-preserved
loop-x-preserved c =
    c.in_ok-push.ensures.items ∙ ap (λ xs. xs ++ c.east_row.result ∷ []) c.loop-x.invariant
    ∙ ap (λ r. map (row_of_edge c.args.n) (range_with_len 1 (c.args.y * c.args.n + c.loop-x.x)) ++ r ∷ []) c.east_row.ensures
    ∙ more_east c.args.n c.loop-x.x c.args.y (omega arith) (omega arith)
