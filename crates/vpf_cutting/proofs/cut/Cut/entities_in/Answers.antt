use Rattle.std.proofs.Common.{◌∙◌, subst}
use Rattle.vpf_tiling.specs.Presence.{holds_entity}
use Rattle.vpf_cutting.specs.Inner.Cuts.{AreCutEntities, plan_by}
use Rattle.vpf_cutting.proofs.ListLemmas.{each_passes, few_pass, items_are, rows_pass}
use Rattle.vpf_cutting.proofs.cut.Cut.entities_in.Goals as goal

pub returns-clause-entities : goal.returns-clause-entities
returns-clause-entities c =
    let is : AreCutEntities c.args.self.now c.self.inside.entities = subst (λ k. AreCutEntities k c.self.inside.entities) c.self.view_is c.self.invariant.entities in
    c.in_tile.ensures.items ∙ items_are _ _ _ _ is c.args.tile

pub returns-clause-each : goal.returns-clause-each
returns-clause-each c = each_passes (holds_entity c.args.self.now.source (plan_by c.args.self.now.plan) c.args.tile) _ c.in_tile.result.now (returns-clause-entities c)

pub returns-clause-rows : goal.returns-clause-rows
returns-clause-rows c = rows_pass (holds_entity c.args.self.now.source (plan_by c.args.self.now.plan) c.args.tile) _ c.in_tile.result.now (returns-clause-entities c)

pub returns-clause-few : goal.returns-clause-few
returns-clause-few c =
    let is : AreCutEntities c.args.self.now c.self.inside.entities = subst (λ k. AreCutEntities k c.self.inside.entities) c.self.view_is c.self.invariant.entities in
    few_pass (holds_entity c.args.self.now.source (plan_by c.args.self.now.plan) c.args.tile) _ c.in_tile.result.now (returns-clause-entities c) is.few
