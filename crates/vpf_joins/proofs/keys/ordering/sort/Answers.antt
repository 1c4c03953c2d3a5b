use Rattle.std.proofs.Common.{rules}
use Rattle.std.proofs.lemmas.List.Sorted.{answers_always, ranks_by}
use Rattle.vpf_value.specs.Values.{view}
use Rattle.vpf_joins.specs.declared.keys.keyed.KeyedRow.{KeyedRow}
use Rattle.vpf_joins.proofs.keys.KeyLemmas.{is_below, sort_keeps}
use Rattle.vpf_joins.proofs.keys.ordering.sort.Goals as goal

pub returns-clause-sorted : goal.returns-clause-sorted
returns-clause-sorted c =
    let order = ranks_by c.values_are_ordered.ensures.total (λ (row : KeyedRow). view row.key) in
    c.in_ok-sort_by.ensures.sorted is_below order (answers_always _ _ _ (λ f a r f' q. search rules))

pub returns-clause-kept : goal.returns-clause-kept
returns-clause-kept c =
    let total = c.values_are_ordered.ensures.total in
    let order = ranks_by total (λ (row : KeyedRow). view row.key) in
    let sorted = c.in_ok-sort_by.ensures in
    sort_keeps total c.args.rows.now.items c.sort_by.new.self.items sorted.permutation (sorted.stable is_below order (answers_always _ _ _ (λ f a r f' q. search rules)))
