use Rattle.std.proofs.Common.{◌<◌, ◌^◌, ap, ◌∙◌, arith}
use Rattle.vpf_prims.specs.declared.rows.EdgeRow.{EdgeRow}
use Rattle.vpf_prims.specs.Reading.{primitives_of}
use Rattle.vpf_prims.specs.References.{id_of}
use Rattle.vpf_cutting.proofs.RowLemmas.{start_node, end_node}
use Rattle.vpf_cutting.proofs.cut.head_of_dart.Goals as goal

pub returns-then-dart : goal.returns-then-dart
returns-then-dart c =
    let small : c.args.dart.edge < 2 ^ 32 = omega arith in
    c.id_of.ensures ∙ ap (λ (r : EdgeRow). id_of r.start_node) c.edge-row.ensures ∙ start_node (primitives_of c.args.tile.now.tables) c.args.dart small c.if-dart.true

pub returns-else-dart : goal.returns-else-dart
returns-else-dart c =
    let small : c.args.dart.edge < 2 ^ 32 = omega arith in
    c.id_of-else-dart.ensures ∙ ap (λ (r : EdgeRow). id_of r.end_node) c.edge-row.ensures ∙ end_node (primitives_of c.args.tile.now.tables) c.args.dart small c.if-dart.false
