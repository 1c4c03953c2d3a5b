use Rattle.std.proofs.Common.{◌+◌, length, drop, map, ap, ◌∙◌, arith}
use Rattle.std.proofs.lemmas.List.{drop_all, length-append}
use Rattle.vpf_base.proofs.Lists.{next_item}
use Rattle.vpf_value.specs.Values.{view}
use Rattle.vpf_value.specs.Canonical.{spelled}
use Rattle.vpf_head.specs.Inner.Views.{col}
use Rattle.vpf_table.specs.Canonical.{row_text}
use Rattle.vpf_write.proofs.RowTexts.{next_cell, next_value, cell_inside, row_end}
use Rattle.vpf_write.proofs.writing.cells_len.Goals as goal

pub bounds-cells-c : goal.bounds-cells-c
bounds-cells-c c = cell_inside c.args.header.now.columns c.args.cells.now c.loop-c.c c.loop-c.invariant.fits (omega arith)

pub spelled_len-len-requires : goal.spelled_len-len-requires
spelled_len-len-requires c =
    let columns = c.args.header.now.columns in
    let i = c.loop-c.c in
    let inside = cell_inside columns c.args.cells.now i c.loop-c.invariant.fits (omega arith) in
    (next_cell c.args.header.now.order _ _ (col c.at-column.result.now) _ (view c.index-cells-c.result) _ (next_item columns i _ c.at-column.ensures) (next_value c.args.cells.now i c.index-cells-c.result inside c.index-cells-c.is) c.loop-c.invariant.fits).fits

pub loop-c-preserved : goal.loop-c-preserved
loop-c-preserved c =
    let o = c.args.header.now.order in
    let columns = c.args.header.now.columns in
    let i = c.loop-c.c in
    let column = c.at-column.result.now in
    let inside = cell_inside columns c.args.cells.now i c.loop-c.invariant.fits (omega arith) in
    let n = next_cell o _ _ (col column) _ (view c.index-cells-c.result) _ (next_item columns i _ c.at-column.ensures) (next_value c.args.cells.now i c.index-cells-c.result inside c.index-cells-c.is) c.loop-c.invariant.fits in
    let whole = ap length n.text ∙ length-append (spelled o column.kind column.count (view c.index-cells-c.result)) (row_text o (drop (i + 1) columns) (drop (i + 1) (map view c.args.cells.now))) in
    record { fits = n.more; small = omega arith; done = omega (arith, whole, c.spelled_len-len.ensures o, c.loop-c.invariant.done) }

pub returns : goal.returns
returns c =
    let columns = c.args.header.now.columns in
    let end = ap length (row_end c.args.header.now.order (drop c.loop-c.c columns) (drop c.loop-c.c (map view c.args.cells.now)) (drop_all c.loop-c.c columns (omega arith))) in
    omega (arith, end, c.loop-c.invariant.done)
