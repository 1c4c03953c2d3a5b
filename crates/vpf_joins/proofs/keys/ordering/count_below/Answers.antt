use Rattle.std.proofs.Common.{rules}
use Rattle.std.specs.Ordering.{is_lt}
use Rattle.std.proofs.lemmas.List.Sorted.{IsPartitionPoint-from_clause}
use Rattle.vpf_value.specs.Values.{view}
use Rattle.vpf_joins.specs.declared.keys.keyed.KeyedRow.{KeyedRow}
use Rattle.vpf_joins.specs.Keys.Keys.{standing}
use Rattle.vpf_joins.proofs.keys.SearchLemmas.{below_partitioned}
use Rattle.vpf_joins.proofs.keys.ordering.count_below.Goals as goal

pub returns-clause-below : goal.returns-clause-below
returns-clause-below c =
    let key = view c.args.key.now in
    IsPartitionPoint-from_clause (λ (row : KeyedRow). is_lt (standing key row)) c.args.rows.now c.partition_point.result c.partition_point.ensures.partitioned
    (below_partitioned c.values_are_ordered.ensures.total key c.args.rows.now c.requires) (λ a r f h. search rules)
