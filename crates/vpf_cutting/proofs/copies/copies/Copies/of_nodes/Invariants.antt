use Rattle.std.proofs.Common.{◌≡◌, ℕ, ◌&&◌}
use Rattle.std.specs.List.{list_any, range_with_len}
use Rattle.vpf_prims.specs.Lists.{kth}
use Rattle.vpf_cutting.specs.Inner.Copies.Lists.{is_paired}
use Rattle.vpf_cutting.specs.Inner.Copies.Placing.{is_end, no_nodes}
use Rattle.vpf_cutting.specs.Inner.Copies.Presence.{has}
use Rattle.vpf_cutting.proofs.copies.copies.Copies.of_nodes.Given as goal

abbrev pub invariant-loop-k : goal.invariant-loop-k
invariant-loop-k l = (t v : ℕ) → is_paired l.pairs.items t v ≡ list_any (λ e. has l.edges t e && is_end (kth l.ends e no_nodes) v) (range_with_len 1 l.k)
