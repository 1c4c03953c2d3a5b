use Rattle.std.proofs.Common.{ℕ, ltb, rules}
use Rattle.std.proofs.lemmas.List.Sorted.{IsPartitionPoint-from_clause}
use Rattle.vpf_cutting.proofs.copies.StartLemmas.{below_partitioned, point_is}
use Rattle.vpf_cutting.proofs.copies.lists.start_of.Goals as goal

pub returns : goal.returns
returns c = point_is c.args.k c.args.pairs.now c.partition_point.result c.partition_point.ensures.bound (IsPartitionPoint-from_clause (λ (p : ℕ × ℕ). ltb p.0 c.args.k) c.args.pairs.now c.partition_point.result c.partition_point.ensures.partitioned (below_partitioned c.args.k c.args.pairs.now c.requires) (λ a r f h. search rules))
