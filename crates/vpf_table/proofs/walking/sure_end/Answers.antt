use Rattle.std.proofs.Common.{◌+◌, ℕ, drop, refl, sym, ap, ◌∙◌, arith}
use Rattle.std.proofs.lemmas.List.{drop_all}
use Rattle.vpf_head.specs.Inner.Views.{col}
use Rattle.vpf_table.specs.Reading.{row_at}
use Rattle.vpf_table.specs.Walking.{row_of, past_of}
use Rattle.vpf_table.proofs.CellOf.{at_column, ends_at, ends_here, is_ok_from, read_is}
use Rattle.vpf_table.proofs.SpanLemmas.{end_after}
use Rattle.vpf_table.proofs.walking.sure_end.Goals as goal

pub sure_past-here-requires-clause-read : goal.sure_past-here-requires-clause-read
sure_past-here-requires-clause-read c =
    let h = c.args.header.now in
    let r = row_at h.order h.columns c.args.bytes.now c.args.at in
    let s = at_column c.order-order.result h.columns c.args.bytes.now c.loop-i.here c.loop-i.i (row_of r) (past_of r) (col c.at.result.now) c.at.ensures c.loop-i.invariant.read in
    is_ok_from _ _ s.cell

pub loop-i-preserved : goal.loop-i-preserved
loop-i-preserved c =
    let h = c.args.header.now in
    let o = c.order-order.result in
    let bytes = c.args.bytes.now in
    let r = row_at h.order h.columns bytes c.args.at in
    let s = at_column o h.columns bytes c.loop-i.here c.loop-i.i (row_of r) (past_of r) (col c.at.result.now) c.at.ensures c.loop-i.invariant.read in
    let next = ends_at o (col c.at.result.now) bytes c.loop-i.here s.next c.sure_past-here.result s.value s.cell c.sure_past-here.ensures.exact in
    record {
      read = ap (λ (n : ℕ). row_at o (drop (c.loop-i.i + 1) h.columns) bytes n) (sym next) ∙ s.rest;
      order = c.loop-i.invariant.order;
      inside = c.sure_past-here.ensures.inside;
    }

pub returns-clause-value : goal.returns-clause-value
returns-clause-value c =
    let h = c.args.header.now in
    let r = row_at h.order h.columns c.args.bytes.now c.args.at in
    ends_here c.order-order.result (drop c.loop-i.i h.columns) c.args.bytes.now c.loop-i.here (drop c.loop-i.i (row_of r)) (past_of r) (drop_all c.loop-i.i h.columns (omega arith)) c.loop-i.invariant.read

pub returns-clause-after : goal.returns-clause-after
returns-clause-after c =
    let h = c.args.header.now in
    let bytes = c.args.bytes.now in
    let r = row_at h.order h.columns bytes c.args.at in
    let end = ends_here c.order-order.result (drop c.loop-i.i h.columns) bytes c.loop-i.here (drop c.loop-i.i (row_of r)) (past_of r) (drop_all c.loop-i.i h.columns (omega arith)) c.loop-i.invariant.read in
    end_after h.order h.columns bytes c.args.at c.loop-i.here (rw (read_is r c.requires.read, end) refl)
