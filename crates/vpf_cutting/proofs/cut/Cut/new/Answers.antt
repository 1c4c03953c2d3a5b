use Rattle.std.proofs.Common.{ℕ, ap}
use Rattle.vpf_cutting.specs.Inner.Cuts.{cutting_of}
use Rattle.vpf_cutting.proofs.PlacingLemmas.{cut_kept}
use Rattle.vpf_cutting.proofs.cut.Cut.new.Goals as goal

pub invariant_of-result : goal.invariant_of-result
invariant_of-result c =
    cut_kept c.args.tile.now c.args.plan.items c.deref-list.result.now c.args.tiles _ _ _ _ c.requires c.deref-list.ensures.value
    c.in_ok-edges.ensures c.in_ok-nodes.ensures c.in_ok-faces.ensures c.in_ok-entities.ensures

pub returns : goal.returns
returns c = ap (λ (t : ℕ). cutting_of c.args.tile.now c.args.plan.items t) c.in_ok-edges.ensures.tiles
