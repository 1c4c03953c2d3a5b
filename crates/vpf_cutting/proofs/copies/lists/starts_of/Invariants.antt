use Rattle.std.proofs.Common.{◌≡◌, map, count_by, ltb}
use Rattle.std.specs.List.{range_with_len}
use Rattle.vpf_cutting.proofs.copies.lists.starts_of.Given as goal

abbrev pub invariant-loop-k : goal.invariant-loop-k
invariant-loop-k l = l.starts.items ≡ map (λ k. count_by (λ pair. ltb pair.0 k) l.pairs) (range_with_len 0 l.k)
