use Rattle.std.proofs.Common.{◌≡◌, ◌^◌, ◌<◌, ◌∙◌, subst, sym, arith}
use Rattle.vpf_tiling.specs.Presence.{local_node}
use Rattle.vpf_wing.specs.Inner.DartLaws.{none_is_some, same_some}
use Rattle.vpf_cutting.specs.Inner.Cuts.{AreCutNodes, IsPlanned, plan_by}
use Rattle.vpf_cutting.proofs.ListLemmas.{node_few, number_is}
use Rattle.vpf_cutting.proofs.cut.Cut.local_node.Goals as goal

pub unreachable-requires : goal.unreachable-requires
unreachable-requires c =
    let is : AreCutNodes c.args.self.now c.self.inside.nodes = subst (λ k. AreCutNodes k c.self.inside.nodes) c.self.view_is c.self.invariant.nodes in
    none_is_some _ (c.in-None.ensures ∙ number_is _ _ _ _ is c.args.tile c.args.node c.requires)

pub returns-clause-number : goal.returns-clause-number
returns-clause-number c =
    let is : AreCutNodes c.args.self.now c.self.inside.nodes = subst (λ k. AreCutNodes k c.self.inside.nodes) c.self.view_is c.self.invariant.nodes in
    let planned : IsPlanned c.args.self.now = subst IsPlanned c.self.view_is c.self.invariant.planned in
    same_some c.in-Some.number _ (c.in-Some.ensures ∙ number_is _ _ _ _ is c.args.tile c.args.node c.requires)
    ∙ sym (c.local_numbers_count.ensures.nodes c.args.self.now.source (plan_by c.args.self.now.plan) planned.tileable.well_formed c.args.tile c.args.node c.requires)

pub returns-clause-some : goal.returns-clause-some
returns-clause-some c =
    let number : c.in-Some.number ≡ local_node c.args.self.now.source (plan_by c.args.self.now.plan) c.args.tile c.args.node = returns-clause-number c in
    omega arith

pub returns-clause-few : goal.returns-clause-few
returns-clause-few c =
    let is : AreCutNodes c.args.self.now c.self.inside.nodes = subst (λ k. AreCutNodes k c.self.inside.nodes) c.self.view_is c.self.invariant.nodes in
    let planned : IsPlanned c.args.self.now = subst IsPlanned c.self.view_is c.self.invariant.planned in
    subst (λ n. n < 2 ^ 24) (sym (returns-clause-number c)) (node_few c.local_numbers_count.ensures.nodes c.args.self.now.source (plan_by c.args.self.now.plan) c.args.tile c.args.node planned.tileable.well_formed is.few c.requires)
