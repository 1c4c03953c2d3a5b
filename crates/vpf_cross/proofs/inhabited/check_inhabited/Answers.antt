use Rattle.std.proofs.Common.{◌+◌, ◌<◌, Some, length, sym, ◌∙◌, arith}
use Rattle.std.proofs.lemmas.Result.{err_from_is_err_and}
use Rattle.vpf_findings.specs.Inner.FirstLaws.{over_stop}
use Rattle.vpf_prims.specs.Lists.{kth}
use Rattle.vpf_prims.specs.Primitives.{absent_entity, entities_in}
use Rattle.vpf_prims.specs.Reading.{primitives_of}
use Rattle.vpf_cross.specs.CarriedLines.{universe_entity_line}
use Rattle.vpf_cross.proofs.CarriedLemmas.{entities_count}
use Rattle.vpf_cross.proofs.inhabited.check_inhabited.Goals as goal

pub returns-in_err-check_entity : goal.returns-in_err-check_entity
returns-in_err-check_entity c =
    let p = err_from_is_err_and c.from_residual.result c.from_residual.ensures.1 in
    let count = entities_count c.args.tile.now c.in-Some.end.now c.in-Some.ensures in
    let within : c.loop-n.n < length c.in-Some.end.now.rows = omega (arith, count, c.entities-n-end.ensures.value) in
    rw (p.1, p.2) (sym c.loop-n.invariant ∙ over_stop (λ i. universe_entity_line c.args.number c.args.tile.now c.in-Some.end.now (i + 1) (kth (entities_in (Some (primitives_of c.args.tile.now.tables))) (i + 1) absent_entity))
    c.loop-n.n (length c.in-Some.end.now.rows) _ within c.in_err-check_entity.ensures)
