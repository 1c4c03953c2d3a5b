use Rattle.std.proofs.Common.{◌<◌, length, sym, ◌∙◌, arith}
use Rattle.std.proofs.lemmas.Result.{err_from_is_err_and}
use Rattle.vpf_prims.specs.Reading.{primitives_of}
use Rattle.vpf_prims.specs.Primitives.{own_edge, absent_edge}
use Rattle.vpf_wing.specs.CycleLines.{loop_line}
use Rattle.vpf_wing.proofs.RowLemmas.{pass_item, stop_item}
use Rattle.vpf_wing.proofs.sides.check_loops.Goals as goal

pub returns-in_err-check_loop : goal.returns-in_err-check_loop
returns-in_err-check_loop c =
    let p = err_from_is_err_and c.from_residual.result c.from_residual.ensures.1 in
    let lines = loop_line c.args.number c.args.tile.now in
    let rows = (primitives_of c.args.tile.now.tables).edges in
    let in' : c.loop-k.k < length rows = omega (arith, c.edges-k-end.ensures.value) in
    rw (p.1, p.2) (sym c.loop-k.invariant ∙ stop_item lines own_edge rows c.loop-k.k absent_edge _ in' c.in_err-check_loop.ensures)

pub loop-k-preserved : goal.loop-k-preserved
loop-k-preserved c =
    let lines = loop_line c.args.number c.args.tile.now in
    let rows = (primitives_of c.args.tile.now.tables).edges in
    let in' : c.loop-k.k < length rows = omega (arith, c.edges-k-end.ensures.value) in
    pass_item lines own_edge rows c.loop-k.k absent_edge in' c.in_ok-check_loop.ensures ∙ c.loop-k.invariant
