use Rattle.std.proofs.Common.{◌≡◌, ◌++◌, map, take}
use Rattle.vpf_joins.specs.declared.keys.keyed.KeyedRow.{KeyedRow}
use Rattle.vpf_joins.specs.Joining.{primitive_at}
use Rattle.vpf_joins.proofs.joining.put_joined.Given as goal

abbrev pub invariant-loop-keyed : goal.invariant-loop-keyed
invariant-loop-keyed l =
    l.primitives.items ≡ l.fn.primitives.items ++ map (primitive_at l.join.table) (map (λ (row : KeyedRow). row.at) (take l.keyed-index l.keyed-items))
