use Rattle.std.proofs.Common.{◌≡◌, ◌^◌, ◌<◌, ◌∙◌, subst, sym, arith}
use Rattle.vpf_tiling.specs.Presence.{local_edge}
use Rattle.vpf_wing.specs.Inner.DartLaws.{none_is_some, same_some}
use Rattle.vpf_cutting.specs.Inner.Cuts.{AreCutEdges, plan_by}
use Rattle.vpf_cutting.proofs.ListLemmas.{edge_few, number_is}
use Rattle.vpf_cutting.proofs.cut.Cut.local_edge.Goals as goal

pub unreachable-requires : goal.unreachable-requires
unreachable-requires c =
    let is : AreCutEdges c.args.self.now c.self.inside.edges = subst (λ k. AreCutEdges k c.self.inside.edges) c.self.view_is c.self.invariant.edges in
    none_is_some _ (c.in-None.ensures ∙ number_is _ _ _ _ is c.args.tile c.args.edge c.requires)

pub returns-clause-number : goal.returns-clause-number
returns-clause-number c =
    let is : AreCutEdges c.args.self.now c.self.inside.edges = subst (λ k. AreCutEdges k c.self.inside.edges) c.self.view_is c.self.invariant.edges in
    same_some c.in-Some.number _ (c.in-Some.ensures ∙ number_is _ _ _ _ is c.args.tile c.args.edge c.requires)
    ∙ sym (c.local_numbers_count.ensures.edges c.args.self.now.source (plan_by c.args.self.now.plan) c.args.tile c.args.edge c.requires)

pub returns-clause-some : goal.returns-clause-some
returns-clause-some c =
    let number : c.in-Some.number ≡ local_edge c.args.self.now.source (plan_by c.args.self.now.plan) c.args.tile c.args.edge = returns-clause-number c in
    omega arith

pub returns-clause-few : goal.returns-clause-few
returns-clause-few c =
    let is : AreCutEdges c.args.self.now c.self.inside.edges = subst (λ k. AreCutEdges k c.self.inside.edges) c.self.view_is c.self.invariant.edges in
    subst (λ n. n < 2 ^ 24) (sym (returns-clause-number c)) (edge_few c.local_numbers_count.ensures.edges c.args.self.now.source (plan_by c.args.self.now.plan) c.args.tile c.args.edge is.few c.requires)
