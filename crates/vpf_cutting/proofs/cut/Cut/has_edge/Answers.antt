use Rattle.std.proofs.Common.{ℕ, Bool, ◌∙◌, ap, subst}
use Rattle.vpf_cutting.specs.Inner.Cuts.{AreCutEdges}
use Rattle.vpf_cutting.proofs.cut.Cut.has_edge.Goals as goal

pub returns : goal.returns
returns c =
    let is : AreCutEdges c.args.self.now c.self.inside.edges = subst (λ k. AreCutEdges k c.self.inside.edges) c.self.view_is c.self.invariant.edges in
    c.is_one_of.ensures ∙ c.tiles_of.ensures.each c.args.tile ∙ ap (λ (h : ℕ → ℕ → Bool). h c.args.tile c.args.edge) is.tests
