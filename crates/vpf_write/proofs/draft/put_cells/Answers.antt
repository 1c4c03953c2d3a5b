use Rattle.std.proofs.Common.{◌++◌, ℕ, List, drop, map, sym, ap, ◌∙◌, arith}
use Rattle.std.proofs.lemmas.List.{append-nil, drop_all}
use Rattle.vpf_base.proofs.Lists.{next_item}
use Rattle.vpf_value.specs.Values.{view}
use Rattle.vpf_head.specs.Inner.Views.{col}
use Rattle.vpf_write.proofs.RowTexts.{next_cell, next_value, cell_inside, cell_put, row_end}
use Rattle.vpf_write.proofs.draft.put_cells.Goals as goal

pub bounds-cells-c : goal.bounds-cells-c
bounds-cells-c c = cell_inside c.args.header.now.columns c.args.cells.now c.loop-c.c c.loop-c.invariant.fits (omega arith)

pub put_cell-requires : goal.put_cell-requires
put_cell-requires c =
    let columns = c.args.header.now.columns in
    let i = c.loop-c.c in
    let inside = cell_inside columns c.args.cells.now i c.loop-c.invariant.fits (omega arith) in
    (next_cell c.args.header.now.order _ _ (col c.at-column.result.now) _ (view c.index-cells-c.result) _ (next_item columns i _ c.at-column.ensures) (next_value c.args.cells.now i c.index-cells-c.result inside c.index-cells-c.is) c.loop-c.invariant.fits).fits

pub loop-c-preserved : goal.loop-c-preserved
loop-c-preserved c =
    let columns = c.args.header.now.columns in
    let i = c.loop-c.c in
    let inside = cell_inside columns c.args.cells.now i c.loop-c.invariant.fits (omega arith) in
    let n = next_cell c.args.header.now.order _ _ (col c.at-column.result.now) _ (view c.index-cells-c.result) _ (next_item columns i _ c.at-column.ensures) (next_value c.args.cells.now i c.index-cells-c.result inside c.index-cells-c.is) c.loop-c.invariant.fits in
    let put = rw c.order-order.ensures at c.in_ok-put_cell.ensures.ok in
    record { fits = n.more; done = cell_put _ _ _ _ _ _ _ _ _ _ n put c.loop-c.invariant.done }

pub returns : goal.returns
returns c =
    let columns = c.args.header.now.columns in
    let end = row_end c.args.header.now.order (drop c.loop-c.c columns) (drop c.loop-c.c (map view c.args.cells.now)) (drop_all c.loop-c.c columns (omega arith)) in
    sym (append-nil c.loop-c.out.items) ∙ sym (ap (λ (t : List ℕ). c.loop-c.out.items ++ t) end) ∙ c.loop-c.invariant.done
