use Rattle.std.proofs.Common.{◌<◌, ◌^◌, true, false, sym, ap, ◌∙◌, arith}
use Rattle.std.specs.Option.{option_map}
use Rattle.vpf_prims.specs.declared.rows.EdgeRow.{EdgeRow}
use Rattle.vpf_wing.specs.Links.{link_of}
use Rattle.vpf_follow.specs.Following.{face_beyond}
use Rattle.vpf_renumbering.proofs.glued_edges.FaceLemmas.{face_there, row_there, tables_there}
use Rattle.vpf_renumbering.proofs.glued_edges.faces.face_of.Goals as goal

pub unreachable-requires : goal.unreachable-requires
unreachable-requires c =
    let few : c.args.dart.edge < 2 ^ 32 = omega arith in
    tables_there c.args.coverage.now c.args.dart few c.requires (sym c.tile.ensures ∙ ap (option_map (λ t. t.now)) c.in_default.is)

pub edge-row-requires : goal.edge-row-requires
edge-row-requires c =
    let few : c.args.dart.edge < 2 ^ 32 = omega arith in
    row_there c.args.coverage.now c.args.dart c.in-Some.tile.now few c.requires (sym c.in-Some.ensures)

pub returns-then-dart : goal.returns-then-dart
returns-then-dart c =
    let few : c.args.dart.edge < 2 ^ 32 = omega arith in
    c.named_face.ensures ∙ ap (λ (r : EdgeRow). face_beyond c.args.dart.tile (link_of r.left_face)) c.edge-row.ensures
    ∙ sym (face_there c.args.coverage.now c.args.dart true c.in-Some.tile.now few c.if-dart.true (sym c.in-Some.ensures))

pub returns-else-dart : goal.returns-else-dart
returns-else-dart c =
    let few : c.args.dart.edge < 2 ^ 32 = omega arith in
    c.named_face-else-dart.ensures ∙ ap (λ (r : EdgeRow). face_beyond c.args.dart.tile (link_of r.right_face)) c.edge-row.ensures
    ∙ sym (face_there c.args.coverage.now c.args.dart false c.in-Some.tile.now few c.if-dart.false (sym c.in-Some.ensures))
