use Rattle.std.proofs.Common.{◌≡◌, ◌+◌, ◌-◌, ◌++◌, ◌==◌}
use Rattle.std.specs.Prelude.{filter}
use Rattle.std.specs.List.{list_any, range_with_len}
use Rattle.vpf_joins.specs.Joining.{once_rising}
use Rattle.vpf_joins.proofs.marking.once_rising.Given as goal

abbrev pub invariant-loop-k : goal.invariant-loop-k
invariant-loop-k l = l.numbers.items ++ filter (λ k. list_any (λ row. row == k) l.fn.rows) (range_with_len (l.k + 1) (l.n - l.k)) ≡ once_rising l.n l.fn.rows
