use Rattle.std.proofs.Common.{◌<◌, length, sym, ◌∙◌, arith}
use Rattle.std.proofs.lemmas.Result.{err_from_is_err_and}
use Rattle.vpf_prims.specs.Reading.{primitives_of}
use Rattle.vpf_prims.specs.Primitives.{FacePrimitive, absent_face}
use Rattle.vpf_prims.specs.References.{id_of}
use Rattle.vpf_wing.specs.CycleLines.{pointer_line}
use Rattle.vpf_wing.proofs.RowLemmas.{pass_item, stop_item}
use Rattle.vpf_wing.proofs.rings.check_pointers.Goals as goal

pub returns-in_err-check_pointer : goal.returns-in_err-check_pointer
returns-in_err-check_pointer c =
    let p = err_from_is_err_and c.from_residual.result c.from_residual.ensures.1 in
    let lines = pointer_line c.args.number c.args.tile.now c.args.faces.now in
    let rows = (primitives_of c.args.tile.now.tables).faces in
    let in' : c.loop-k.k < length rows = omega (arith, c.faces-k-end.ensures.value) in
    rw (p.1, p.2) (sym c.loop-k.invariant ∙ stop_item lines (λ (f : FacePrimitive). id_of f.ring_ptr) rows c.loop-k.k absent_face _ in' c.in_err-check_pointer.ensures)

pub loop-k-preserved : goal.loop-k-preserved
loop-k-preserved c =
    let lines = pointer_line c.args.number c.args.tile.now c.args.faces.now in
    let rows = (primitives_of c.args.tile.now.tables).faces in
    let in' : c.loop-k.k < length rows = omega (arith, c.faces-k-end.ensures.value) in
    pass_item lines (λ (f : FacePrimitive). id_of f.ring_ptr) rows c.loop-k.k absent_face in' c.in_ok-check_pointer.ensures ∙ c.loop-k.invariant
