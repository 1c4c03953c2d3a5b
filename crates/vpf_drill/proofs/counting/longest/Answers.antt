use Rattle.std.proofs.Common.{◌∙◌, ◌+◌, ap, drop, max}
use Rattle.vpf_drill.specs.Counting.{longest}
use Rattle.vpf_drill.proofs.ListLemmas.{longest_so_far}
use Rattle.vpf_drill.proofs.counting.longest.Goals as goal

pub loop-i-preserved : goal.loop-i-preserved
loop-i-preserved c =
    ap (λ m. max m (longest (drop (c.loop-i.i + 1) c.args.listing.now))) c.greater-most.ensures
    ∙ longest_so_far c.args.listing.now c.loop-i.i c.loop-i.most c.at.result.now c.at.ensures
    ∙ c.loop-i.invariant
