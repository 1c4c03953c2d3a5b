use Rattle.std.proofs.Common.{◌∙◌, subst}
use Rattle.vpf_tiling.specs.Presence.{has_edge}
use Rattle.vpf_cutting.specs.Inner.Cuts.{AreCutEdges, plan_by}
use Rattle.vpf_cutting.proofs.ListLemmas.{each_passes, few_pass, items_are, rows_pass}
use Rattle.vpf_cutting.proofs.cut.Cut.edges_in.Goals as goal

pub returns-clause-edges : goal.returns-clause-edges
returns-clause-edges c =
    let is : AreCutEdges c.args.self.now c.self.inside.edges = subst (λ k. AreCutEdges k c.self.inside.edges) c.self.view_is c.self.invariant.edges in
    c.in_tile.ensures.items ∙ items_are _ _ _ _ is c.args.tile

pub returns-clause-each : goal.returns-clause-each
returns-clause-each c = each_passes (has_edge c.args.self.now.source (plan_by c.args.self.now.plan) c.args.tile) _ c.in_tile.result.now (returns-clause-edges c)

pub returns-clause-rows : goal.returns-clause-rows
returns-clause-rows c = rows_pass (has_edge c.args.self.now.source (plan_by c.args.self.now.plan) c.args.tile) _ c.in_tile.result.now (returns-clause-edges c)

pub returns-clause-few : goal.returns-clause-few
returns-clause-few c =
    let is : AreCutEdges c.args.self.now c.self.inside.edges = subst (λ k. AreCutEdges k c.self.inside.edges) c.self.view_is c.self.invariant.edges in
    few_pass (has_edge c.args.self.now.source (plan_by c.args.self.now.plan) c.args.tile) _ c.in_tile.result.now (returns-clause-edges c) is.few
