use Rattle.std.proofs.Common.{◌^◌, ◌<◌, ap, sym, ◌∙◌, arith}
use Rattle.std.specs.Option.{option_map}
use Rattle.vpf_prims.specs.declared.rows.EdgeRow.{EdgeRow}
use Rattle.vpf_prims.specs.References.{id_of}
use Rattle.vpf_follow.specs.Inner.Rows.{row_face}
use Rattle.vpf_renumbering.proofs.glued_faces.FaceLemmas.{face_nowhere, face_past, face_there, face_zero}
use Rattle.vpf_renumbering.proofs.glued_faces.starts.face_id.Goals as goal

pub returns-in-Some : goal.returns-in-Some
returns-in-Some c =
    let few : c.args.dart.edge < 2 ^ 32 = omega arith in
    c.face_of_row.ensures ∙ ap (λ (r : EdgeRow). id_of (row_face c.args.dart.minus r)) c.edge.ensures ∙ face_there c.args.coverage.now c.args.dart c.in-Some.tile.now few c.in-Some.ensures

pub returns-in_default : goal.returns-in_default
returns-in_default c =
    let few : c.args.dart.edge < 2 ^ 32 = omega arith in
    face_past c.args.coverage.now c.args.dart c.in-Some.tile.now few c.in-Some.ensures (omega (arith, c.edges.ensures.value))

pub returns-in_default-2 : goal.returns-in_default-2
returns-in_default-2 c =
    let few : c.args.dart.edge < 2 ^ 32 = omega arith in
    face_zero c.args.coverage.now c.args.dart few (omega arith)

pub returns-in_default-3 : goal.returns-in_default-3
returns-in_default-3 c =
    let few : c.args.dart.edge < 2 ^ 32 = omega arith in
    face_nowhere c.args.coverage.now c.args.dart few (ap (option_map (λ t. t.now)) (sym c.in_default.is) ∙ c.tile.ensures)
