use Rattle.std.proofs.Common.{◌+◌, ◌*◌, ◌++◌, ◌∷◌, [], ap, ◌∙◌, map, arith}
use Rattle.std.specs.List.{range_with_len}
use Rattle.vpf_vectors.specs.Cells.Rows.{row_of_edge}
use Rattle.vpf_vectors.proofs.cells.CodeLemmas.{more_north}
use Rattle.vpf_vectors.proofs.cells.grids.north_line.Goals as goal

pub loop-y-preserved : goal.loop-y-preserved
loop-y-preserved c =
    c.in_ok-push.ensures.items ∙ ap (λ xs. xs ++ c.north_row.result ∷ []) c.loop-y.invariant
    ∙ ap (λ r. map (row_of_edge c.args.n) (range_with_len 1 (c.args.n * (c.args.n + 1) + c.args.x * c.args.n + c.loop-y.y)) ++ r ∷ []) c.north_row.ensures
    ∙ more_north c.args.n c.args.x c.loop-y.y (omega arith) (omega arith)
