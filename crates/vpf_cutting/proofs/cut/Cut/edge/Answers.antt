use Rattle.std.proofs.Common.{◌≡◌, ap, ◌∙◌, sym, subst, length, true}
use Rattle.vpf_darts.specs.declared.darts.Dart.{Dart}
use Rattle.vpf_darts.specs.Darts.{dart_code}
use Rattle.vpf_prims.specs.Numbering.{IsRowOf}
use Rattle.vpf_tiling.specs.Presence.{is_present}
use Rattle.vpf_cutting.specs.Inner.Cuts.{plan_by}
use Rattle.vpf_cutting.specs.Inner.WalkLaws.{has_edge_row}
use Rattle.vpf_cutting.proofs.DartLemmas.{edge_references, side_is}
use Rattle.vpf_cutting.proofs.cut.Cut.edge.Goals as goal

pub onward-behind_plus-requires : goal.onward-behind_plus-requires
onward-behind_plus-requires c = has_edge_row c.args.self.now.source (plan_by c.args.self.now.plan) c.args.tile c.args.edge c.requires

pub onward-behind_minus-requires : goal.onward-behind_minus-requires
onward-behind_minus-requires c =
    subst (λ (d : Dart). IsRowOf (length c.args.self.now.source.edges) d.edge) (sym c.flip-minus.ensures) (has_edge_row c.args.self.now.source (plan_by c.args.self.now.plan) c.args.tile c.args.edge c.requires)

pub node_cell-start_node-requires-clause-present : goal.node_cell-start_node-requires-clause-present
node_cell-start_node-requires-clause-present c =
    subst (λ (d : Dart). is_present c.args.self.now.source (plan_by c.args.self.now.plan) c.args.tile (dart_code d) ≡ true) (sym c.flip-minus.ensures)
    (side_is c.args.self.now.source (plan_by c.args.self.now.plan) c.args.tile c.args.edge true ∙ c.requires)

pub face-right-requires : goal.face-right-requires
face-right-requires c = has_edge_row c.args.self.now.source (plan_by c.args.self.now.plan) c.args.tile c.args.edge c.requires

pub face-left-requires : goal.face-left-requires
face-left-requires c =
    subst (λ (d : Dart). IsRowOf (length c.args.self.now.source.edges) d.edge) (sym c.flip-minus.ensures) (has_edge_row c.args.self.now.source (plan_by c.args.self.now.plan) c.args.tile c.args.edge c.requires)

pub wing_cell-requires-2-clause-present : goal.wing_cell-requires-2-clause-present
wing_cell-requires-2-clause-present c =
    subst (λ (d : Dart). is_present c.args.self.now.source (plan_by c.args.self.now.plan) c.args.tile (dart_code d) ≡ true) (sym c.flip-minus.ensures)
    (side_is c.args.self.now.source (plan_by c.args.self.now.plan) c.args.tile c.args.edge true ∙ c.requires)

pub returns-clause-value : goal.returns-clause-value
returns-clause-value c k =
    edge_references c.args.self.now.source (plan_by c.args.self.now.plan) c.args.tile k c.args.edge c.flip-minus.result c.face-right.result c.face-left.result _ _ _ _ _ _
    (ap dart_code c.flip-minus.ensures) c.face-right.ensures.value c.face-left.ensures.value
    c.node_cell-start_node.ensures.value c.node_cell-end_node.ensures.value c.face_cell.ensures.value c.face_cell-2.ensures.value
    c.wing_cell.ensures.value c.wing_cell-2.ensures.value
