use Rattle.std.proofs.Common.{◌<◌, length, sym, ◌∙◌, arith}
use Rattle.std.proofs.lemmas.Result.{err_from_is_err_and}
use Rattle.vpf_prims.specs.Reading.{primitives_of}
use Rattle.vpf_cross.specs.HomeLines.{copies_lines}
use Rattle.vpf_cross.proofs.LoopLemmas.{stop_edge}
use Rattle.vpf_cross.proofs.homes.check_homes.Goals as goal

pub returns-in_err-check_copies : goal.returns-in_err-check_copies
returns-in_err-check_copies c =
    let p = err_from_is_err_and c.from_residual.result c.from_residual.ensures.1 in
    let lines = copies_lines c.args.followed.now c.args.number c.args.tile.now in
    let in' : c.loop-k.k < length (primitives_of c.args.tile.now.tables).edges = omega (arith, c.edges-k-end.ensures.value) in
    rw (p.1, p.2) (sym c.loop-k.invariant ∙ stop_edge lines c.loop-k.k c.args.tile.now _ in' c.in_err-check_copies.ensures)
