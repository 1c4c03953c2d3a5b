use Rattle.std.proofs.Common.{ap, length, arith}
use Rattle.vpf_head.specs.Inner.Views.{col}
use Rattle.vpf_head.proofs.Canonicals.{length-column}
use Rattle.vpf_head.proofs.making.past_column.Goals as goal

pub next_after_text-requires : goal.next_after_text-requires
next_after_text-requires c = let whole = length-column (col c.args.column.now) in omega (arith, whole, c.requires)

pub next_part-requires : goal.next_part-requires
next_part-requires c = let whole = length-column (col c.args.column.now) in omega (arith, whole, c.requires, c.in_ok-kind.ensures.next, ap length c.kind_item-len.ensures)

pub next_part-requires-2 : goal.next_part-requires-2
next_part-requires-2 c = let whole = length-column (col c.args.column.now) in omega (arith, whole, c.requires, c.in_ok-kind.ensures.next, ap length c.kind_item-len.ensures, c.in_ok-count.ensures.next, c.count_len-len.ensures.value)

pub next_part-requires-3 : goal.next_part-requires-3
next_part-requires-3 c = let whole = length-column (col c.args.column.now) in omega (arith, whole, c.requires, c.in_ok-kind.ensures.next, ap length c.kind_item-len.ensures, c.in_ok-count.ensures.next, c.count_len-len.ensures.value, c.in_ok-key.ensures.next, c.key_len-len.ensures.value)

pub next_after_text-requires-2 : goal.next_after_text-requires-2
next_after_text-requires-2 c = let whole = length-column (col c.args.column.now) in omega (arith, whole, c.requires, c.in_ok-kind.ensures.next, ap length c.kind_item-len.ensures, c.in_ok-count.ensures.next, c.count_len-len.ensures.value, c.in_ok-key.ensures.next, c.key_len-len.ensures.value, c.in_ok-description.ensures.next)

pub next_after_name-requires : goal.next_after_name-requires
next_after_name-requires c = let whole = length-column (col c.args.column.now) in omega (arith, whole, c.requires, c.in_ok-kind.ensures.next, ap length c.kind_item-len.ensures, c.in_ok-count.ensures.next, c.count_len-len.ensures.value, c.in_ok-key.ensures.next, c.key_len-len.ensures.value, c.in_ok-description.ensures.next, c.in_ok-values.ensures.next)

pub next_after_name-requires-2 : goal.next_after_name-requires-2
next_after_name-requires-2 c = let whole = length-column (col c.args.column.now) in omega (arith, whole, c.requires, c.in_ok-kind.ensures.next, ap length c.kind_item-len.ensures, c.in_ok-count.ensures.next, c.count_len-len.ensures.value, c.in_ok-key.ensures.next, c.key_len-len.ensures.value, c.in_ok-description.ensures.next, c.in_ok-values.ensures.next, c.in_ok-theme.ensures.next)

pub next_after_name-requires-3 : goal.next_after_name-requires-3
next_after_name-requires-3 c = let whole = length-column (col c.args.column.now) in omega (arith, whole, c.requires, c.in_ok-kind.ensures.next, ap length c.kind_item-len.ensures, c.in_ok-count.ensures.next, c.count_len-len.ensures.value, c.in_ok-key.ensures.next, c.key_len-len.ensures.value, c.in_ok-description.ensures.next, c.in_ok-values.ensures.next, c.in_ok-theme.ensures.next, c.in_ok-narrative.ensures.next)

pub overflow_add-result : goal.overflow_add-result
overflow_add-result c = let whole = length-column (col c.args.column.now) in omega (arith, whole, c.requires, c.in_ok-kind.ensures.next, ap length c.kind_item-len.ensures, c.in_ok-count.ensures.next, c.count_len-len.ensures.value, c.in_ok-key.ensures.next, c.key_len-len.ensures.value, c.in_ok-description.ensures.next, c.in_ok-values.ensures.next, c.in_ok-theme.ensures.next, c.in_ok-narrative.ensures.next, c.in_ok-colon.ensures.next)

pub returns-clause-past : goal.returns-clause-past
returns-clause-past c = let whole = length-column (col c.args.column.now) in omega (arith, whole, c.requires, c.in_ok-kind.ensures.next, ap length c.kind_item-len.ensures, c.in_ok-count.ensures.next, c.count_len-len.ensures.value, c.in_ok-key.ensures.next, c.key_len-len.ensures.value, c.in_ok-description.ensures.next, c.in_ok-values.ensures.next, c.in_ok-theme.ensures.next, c.in_ok-narrative.ensures.next, c.in_ok-colon.ensures.next)
