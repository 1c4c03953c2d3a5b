use Rattle.std.proofs.Common.{◌≡◌, ℕ, leb, ◌&&◌}
use Rattle.vpf_cutting.specs.Inner.Copies.Lists.{is_paired}
use Rattle.vpf_cutting.specs.Inner.Copies.Placing.{is_beside}
use Rattle.vpf_cutting.proofs.copies.copies.Copies.of_edges.Given as goal

abbrev pub invariant-loop-k : goal.invariant-loop-k
invariant-loop-k l = (t i : ℕ) → is_paired l.pairs.items t i ≡ (leb i l.k && is_beside l.sides t i)
