use Rattle.std.proofs.Common.{◌∙◌, subst}
use Rattle.vpf_tiling.specs.Presence.{holds_face}
use Rattle.vpf_cutting.specs.Inner.Cuts.{AreCutFaces, plan_by}
use Rattle.vpf_cutting.proofs.ListLemmas.{each_passes, few_pass, items_are, rows_pass}
use Rattle.vpf_cutting.proofs.cut.Cut.faces_in.Goals as goal

pub returns-clause-faces : goal.returns-clause-faces
returns-clause-faces c =
    let is : AreCutFaces c.args.self.now c.self.inside.faces = subst (λ k. AreCutFaces k c.self.inside.faces) c.self.view_is c.self.invariant.faces in
    c.in_tile.ensures.items ∙ items_are _ _ _ _ is c.args.tile

pub returns-clause-each : goal.returns-clause-each
returns-clause-each c = each_passes (holds_face c.args.self.now.source (plan_by c.args.self.now.plan) c.args.tile) _ c.in_tile.result.now (returns-clause-faces c)

pub returns-clause-rows : goal.returns-clause-rows
returns-clause-rows c = rows_pass (holds_face c.args.self.now.source (plan_by c.args.self.now.plan) c.args.tile) _ c.in_tile.result.now (returns-clause-faces c)

pub returns-clause-few : goal.returns-clause-few
returns-clause-few c =
    let is : AreCutFaces c.args.self.now c.self.inside.faces = subst (λ k. AreCutFaces k c.self.inside.faces) c.self.view_is c.self.invariant.faces in
    few_pass (holds_face c.args.self.now.source (plan_by c.args.self.now.plan) c.args.tile) _ c.in_tile.result.now (returns-clause-faces c) is.few
