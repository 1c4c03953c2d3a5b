use Rattle.std.proofs.Common.{◌<◌, ◌^◌, ap, ◌∙◌, arith}
use Rattle.vpf_prims.specs.declared.rows.EdgeRow.{EdgeRow}
use Rattle.vpf_prims.specs.Reading.{primitives_of}
use Rattle.vpf_prims.specs.References.{id_of}
use Rattle.vpf_cutting.proofs.RowLemmas.{left_face, right_face}
use Rattle.vpf_cutting.proofs.cut.face_of_dart.Goals as goal

pub returns-then-dart : goal.returns-then-dart
returns-then-dart c =
    let small : c.args.dart.edge < 2 ^ 32 = omega arith in
    c.id_of.ensures ∙ ap (λ (r : EdgeRow). id_of r.left_face) c.edge-row.ensures ∙ left_face (primitives_of c.args.tile.now.tables) c.args.dart small c.if-dart.true

pub returns-else-dart : goal.returns-else-dart
returns-else-dart c =
    let small : c.args.dart.edge < 2 ^ 32 = omega arith in
    c.id_of-else-dart.ensures ∙ ap (λ (r : EdgeRow). id_of r.right_face) c.edge-row.ensures ∙ right_face (primitives_of c.args.tile.now.tables) c.args.dart small c.if-dart.false
