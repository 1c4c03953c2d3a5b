use Rattle.std.proofs.Common.{◌≡◌, ◌+◌, ℕ, Some, Ok, drop, sym, ap, subst, ◌∙◌, arith}
use Rattle.vpf_base.specs.declared.orders.Order.{Order}
use Rattle.vpf_findings.specs.Values.{Value, view}
use Rattle.vpf_head.specs.Inner.Views.{col}
use Rattle.vpf_table.specs.Reading.{cell_in, row_at}
use Rattle.vpf_table.specs.Walking.{row_of, past_of}
use Rattle.vpf_table.proofs.CellOf.{ends_at, read_is, length-row, at_column, is_ok_from, same_found}
use Rattle.vpf_table.proofs.row.cell_behind.Goals as goal

pub at-requires : goal.at-requires
at-requires c =
    let r = row_at c.args.header.now.order c.args.header.now.columns c.args.bytes.now c.args.begin in
    omega (arith, length-row c.args.header.now.order c.args.header.now.columns c.args.bytes.now c.args.begin (row_of r) (past_of r) (read_is r c.requires.row), c.loop-i-test.true, c.requires.within)

pub at-requires-2 : goal.at-requires-2
at-requires-2 c =
    let r = row_at c.args.header.now.order c.args.header.now.columns c.args.bytes.now c.args.begin in
    omega (arith, length-row c.args.header.now.order c.args.header.now.columns c.args.bytes.now c.args.begin (row_of r) (past_of r) (read_is r c.requires.row), c.requires.within)

pub sure_past-here-requires-clause-read : goal.sure_past-here-requires-clause-read
sure_past-here-requires-clause-read c =
    let r = row_at c.args.header.now.order c.args.header.now.columns c.args.bytes.now c.args.begin in
    let h = at_column c.order-order.result c.args.header.now.columns c.args.bytes.now c.loop-i.here c.loop-i.i (row_of r) (past_of r) (col c.at.result.now) c.at.ensures c.loop-i.invariant.left in
    is_ok_from _ _ h.cell

pub loop-i-preserved : goal.loop-i-preserved
loop-i-preserved c =
    let r = row_at c.args.header.now.order c.args.header.now.columns c.args.bytes.now c.args.begin in
    let cols = c.args.header.now.columns in
    let o = c.order-order.result in
    let bytes = c.args.bytes.now in
    let h = at_column o cols bytes c.loop-i.here c.loop-i.i (row_of r) (past_of r) (col c.at.result.now) c.at.ensures c.loop-i.invariant.left in
    let next = ends_at o (col c.at.result.now) bytes c.loop-i.here h.next c.sure_past-here.result h.value h.cell c.sure_past-here.ensures.exact in
    record {
      left = ap (λ (n : ℕ). row_at o (drop (c.loop-i.i + 1) cols) bytes n) (sym next) ∙ h.rest;
      order = c.loop-i.invariant.order;
      inside = c.sure_past-here.ensures.inside;
    }

pub sure_cell-requires-clause-read : goal.sure_cell-requires-clause-read
sure_cell-requires-clause-read c =
    let r = row_at c.args.header.now.order c.args.header.now.columns c.args.bytes.now c.args.begin in
    let i : c.loop-i.i ≡ c.args.c = omega (arith, c.loop-i-test.false, c.loop-i.auto.i-end) in
    let h = at_column c.order-order.result c.args.header.now.columns c.args.bytes.now c.loop-i.here c.loop-i.i (row_of r) (past_of r) (col c.at-2.result.now) (rw i c.at-2.ensures) c.loop-i.invariant.left in
    is_ok_from _ _ h.cell

pub returns-clause-cell : goal.returns-clause-cell
returns-clause-cell c =
    let r = row_at c.args.header.now.order c.args.header.now.columns c.args.bytes.now c.args.begin in
    let o = c.order-order.result in
    let bytes = c.args.bytes.now in
    let i : c.loop-i.i ≡ c.args.c = omega (arith, c.loop-i-test.false, c.loop-i.auto.i-end) in
    let h = at_column o c.args.header.now.columns bytes c.loop-i.here c.loop-i.i (row_of r) (past_of r) (col c.at-2.result.now) (rw i c.at-2.ensures) c.loop-i.invariant.left in
    let value : h.value ≡ view c.sure_cell.result.0 = ap (λ (x : Value × ℕ). x.0) (same_found (cell_in o (col c.at-2.result.now) bytes c.loop-i.here) (h.value, h.next) (view c.sure_cell.result.0, c.sure_cell.result.1) h.cell c.sure_cell.ensures.exact) in
    rw (← i) (h.item ∙ ap (λ (x : Value). Some x) value)

pub returns-clause-left : goal.returns-clause-left
returns-clause-left c =
    let r = row_at c.args.header.now.order c.args.header.now.columns c.args.bytes.now c.args.begin in
    let o = c.order-order.result in
    let bytes = c.args.bytes.now in
    let i : c.loop-i.i ≡ c.args.c = omega (arith, c.loop-i-test.false, c.loop-i.auto.i-end) in
    let h = at_column o c.args.header.now.columns bytes c.loop-i.here c.loop-i.i (row_of r) (past_of r) (col c.at-2.result.now) (rw i c.at-2.ensures) c.loop-i.invariant.left in
    let next : h.next ≡ c.sure_cell.result.1 = ap (λ (x : Value × ℕ). x.1) (same_found (cell_in o (col c.at-2.result.now) bytes c.loop-i.here) (h.value, h.next) (view c.sure_cell.result.0, c.sure_cell.result.1) h.cell c.sure_cell.ensures.exact) in
    let left = ap (λ (n : ℕ). row_at o (drop (c.loop-i.i + 1) c.args.header.now.columns) bytes n) (sym next) ∙ h.rest in
    rw (← i) (subst (λ (x : Order). row_at x (drop (c.loop-i.i + 1) c.args.header.now.columns) bytes c.sure_cell.result.1 ≡ Ok (drop (c.loop-i.i + 1) (row_of r), past_of r)) c.loop-i.invariant.order left)
