use Rattle.std.proofs.Common.{◌≡◌, ◌+◌, drop, map, length, ap, ◌∙◌, arith}
use Rattle.std.proofs.lemmas.List.{length-append}
use Rattle.indexmap.specs.IndexMap.{values, index_map_len}
use Rattle.vpf_head.specs.Canonical.{column_text, columns_text}
use Rattle.vpf_head.specs.Inner.Views.{col}
use Rattle.vpf_head.proofs.Entries.{columns_step, columns_end, column_spelled, length-values}
use Rattle.vpf_head.proofs.writing.columns_len.Goals as goal

pub column_len-len-requires : goal.column_len-len-requires
column_len-len-requires c = column_spelled (values c.args.columns.now) c.loop-c.c c.column_of.result.now c.column_of.ensures c.requires.spelled

pub loop-c-preserved : goal.loop-c-preserved
loop-c-preserved c =
    let step = ap length (columns_step (values c.args.columns.now) c.loop-c.c c.column_of.result.now c.column_of.ensures)
    ∙ length-append (column_text (col c.column_of.result.now)) (columns_text (map col (drop (c.loop-c.c + 1) (values c.args.columns.now)))) in
    record { done = omega (arith, step, c.loop-c.invariant.done, c.column_len-len.ensures.value); short = omega (arith, c.loop-c.invariant.short, c.column_len-len.ensures.short) }

pub returns-clause-value : goal.returns-clause-value
returns-clause-value c =
    let many : length (values c.args.columns.now) ≡ index_map_len c.args.columns.now = length-values c.args.columns.now.entries in
    let end = ap length (columns_end (values c.args.columns.now) c.loop-c.c (omega arith)) in
    omega (arith, end, c.loop-c.invariant.done)
