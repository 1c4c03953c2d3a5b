use Rattle.std.proofs.Common.{◌∙◌, subst}
use Rattle.vpf_tiling.specs.Presence.{has_node}
use Rattle.vpf_cutting.specs.Inner.Cuts.{AreCutNodes, plan_by}
use Rattle.vpf_cutting.proofs.ListLemmas.{each_passes, few_pass, items_are, rows_pass}
use Rattle.vpf_cutting.proofs.cut.Cut.nodes_in.Goals as goal

pub returns-clause-nodes : goal.returns-clause-nodes
returns-clause-nodes c =
    let is : AreCutNodes c.args.self.now c.self.inside.nodes = subst (λ k. AreCutNodes k c.self.inside.nodes) c.self.view_is c.self.invariant.nodes in
    c.in_tile.ensures.items ∙ items_are _ _ _ _ is c.args.tile

pub returns-clause-each : goal.returns-clause-each
returns-clause-each c = each_passes (has_node c.args.self.now.source (plan_by c.args.self.now.plan) c.args.tile) _ c.in_tile.result.now (returns-clause-nodes c)

pub returns-clause-rows : goal.returns-clause-rows
returns-clause-rows c = rows_pass (has_node c.args.self.now.source (plan_by c.args.self.now.plan) c.args.tile) _ c.in_tile.result.now (returns-clause-nodes c)

pub returns-clause-few : goal.returns-clause-few
returns-clause-few c =
    let is : AreCutNodes c.args.self.now c.self.inside.nodes = subst (λ k. AreCutNodes k c.self.inside.nodes) c.self.view_is c.self.invariant.nodes in
    few_pass (has_node c.args.self.now.source (plan_by c.args.self.now.plan) c.args.tile) _ c.in_tile.result.now (returns-clause-nodes c) is.few
