use Rattle.std.proofs.Common.{◌<◌, length, sym, ◌∙◌, arith}
use Rattle.std.proofs.lemmas.Result.{err_from_is_err_and}
use Rattle.vpf_prims.specs.Reading.{primitives_of}
use Rattle.vpf_prims.specs.Libraries.{library_of}
use Rattle.vpf_cross.specs.CarriedLines.{nodes_lines}
use Rattle.vpf_cross.proofs.LoopLemmas.{stop_edge}
use Rattle.vpf_cross.proofs.carried.check_nodes.Goals as goal

pub returns-in_err-check_nodes_of : goal.returns-in_err-check_nodes_of
returns-in_err-check_nodes_of c =
    let p = err_from_is_err_and c.from_residual.result c.from_residual.ensures.1 in
    let lines = nodes_lines (library_of c.args.coverage.now) c.args.number c.args.tile.now in
    let in' : c.loop-k.k < length (primitives_of c.args.tile.now.tables).edges = omega (arith, c.edges-k-end.ensures.value) in
    rw (p.1, p.2) (sym c.loop-k.invariant ∙ stop_edge lines c.loop-k.k c.args.tile.now _ in' c.in_err-check_nodes_of.ensures)
