use Rattle.std.proofs.Common.{◌≡◌, map}
use Rattle.std.specs.List.{flat_map, range_with_len}
use Rattle.vpf_joins.specs.Keys.Keys.{keyed_of}
use Rattle.vpf_joins.specs.Joining.{keyed_in_table, table_in_tile}
use Rattle.vpf_joins.proofs.keying.keys_over.Given as goal

abbrev pub invariant-loop-t : goal.invariant-loop-t
invariant-loop-t l = map keyed_of l.keys.items ≡ flat_map (λ t. keyed_in_table t l.key (table_in_tile l.coverage l.name t)) (range_with_len 0 l.t)
