use Rattle.std.proofs.Common.{ap, ◌∙◌, sym, subst, length, true}
use Rattle.vpf_darts.specs.declared.darts.Dart.{Dart}
use Rattle.vpf_darts.specs.Darts.{code, dart_code}
use Rattle.vpf_prims.specs.Numbering.{IsRowOf}
use Rattle.vpf_tiling.specs.Presence.{head_of, local_node, present_nodes}
use Rattle.vpf_cutting.specs.Inner.Cuts.{plan_by}
use Rattle.vpf_cutting.specs.Inner.WalkLaws.{has_edge_row}
use Rattle.vpf_cutting.proofs.DartLemmas.{head_there, side_is}
use Rattle.vpf_cutting.proofs.FirstLemmas.{node_within}
use Rattle.vpf_cutting.proofs.cut.Cut.ends_in.Goals as goal

pub head-start-requires : goal.head-start-requires
head-start-requires c =
    subst (λ (d : Dart). IsRowOf (length c.args.self.now.source.edges) d.edge) (sym c.flip-minus.ensures) (has_edge_row c.args.self.now.source (plan_by c.args.self.now.plan) c.args.tile c.args.edge c.requires)

pub head-end-requires : goal.head-end-requires
head-end-requires c = has_edge_row c.args.self.now.source (plan_by c.args.self.now.plan) c.args.tile c.args.edge c.requires

pub local_node-requires : goal.local_node-requires
local_node-requires c =
    head_there c.args.self.now.source (plan_by c.args.self.now.plan) c.args.tile (code 0 c.args.edge 1) c.head-start.result (side_is c.args.self.now.source (plan_by c.args.self.now.plan) c.args.tile c.args.edge true ∙ c.requires)
    (c.head-start.ensures ∙ ap (λ (d : Dart). head_of c.args.self.now.source (dart_code d)) c.flip-minus.ensures)

pub local_node-requires-2 : goal.local_node-requires-2
local_node-requires-2 c = head_there c.args.self.now.source (plan_by c.args.self.now.plan) c.args.tile (code 0 c.args.edge 0) c.head-end.result c.requires c.head-end.ensures

pub returns-clause-start : goal.returns-clause-start
returns-clause-start c =
    c.local_node.ensures.number
    ∙ ap (local_node c.args.self.now.source (plan_by c.args.self.now.plan) c.args.tile) (c.head-start.ensures ∙ ap (λ (d : Dart). head_of c.args.self.now.source (dart_code d)) c.flip-minus.ensures)

pub returns-clause-end : goal.returns-clause-end
returns-clause-end c = c.local_node-2.ensures.number ∙ ap (local_node c.args.self.now.source (plan_by c.args.self.now.plan) c.args.tile) c.head-end.ensures

pub returns-clause-start_row : goal.returns-clause-start_row
returns-clause-start_row c =
    subst (IsRowOf (length (present_nodes c.args.self.now.source (plan_by c.args.self.now.plan) c.args.tile))) (sym c.local_node.ensures.number)
    (node_within c.args.self.now.source (plan_by c.args.self.now.plan) c.args.tile c.head-start.result c.plan_holds.ensures.tileable.well_formed (head_there c.args.self.now.source (plan_by c.args.self.now.plan) c.args.tile (code 0 c.args.edge 1) c.head-start.result (side_is c.args.self.now.source (plan_by c.args.self.now.plan) c.args.tile c.args.edge true ∙ c.requires)
    (c.head-start.ensures ∙ ap (λ (d : Dart). head_of c.args.self.now.source (dart_code d)) c.flip-minus.ensures)))

pub returns-clause-end_row : goal.returns-clause-end_row
returns-clause-end_row c =
    subst (IsRowOf (length (present_nodes c.args.self.now.source (plan_by c.args.self.now.plan) c.args.tile))) (sym c.local_node-2.ensures.number)
    (node_within c.args.self.now.source (plan_by c.args.self.now.plan) c.args.tile c.head-end.result c.plan_holds.ensures.tileable.well_formed (head_there c.args.self.now.source (plan_by c.args.self.now.plan) c.args.tile (code 0 c.args.edge 0) c.head-end.result c.requires c.head-end.ensures))
