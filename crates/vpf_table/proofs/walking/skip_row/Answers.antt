use Rattle.std.proofs.Common.{◌+◌, drop, sym, ap, ◌∙◌, arith, List}
use Rattle.std.proofs.lemmas.Result.{err_from_is_err_and}
use Rattle.std.proofs.lemmas.List.{drop_all}
use Rattle.vpf_base.proofs.Lists.{next_item}
use Rattle.vpf_head.specs.Head.{Col}
use Rattle.vpf_head.specs.Inner.Views.{col}
use Rattle.vpf_table.specs.Reading.{row_at}
use Rattle.vpf_table.specs.Walking.{end_of}
use Rattle.vpf_table.proofs.WalkLemmas.{row_done}
use Rattle.vpf_table.specs.Inner.WalkLaws.{cell_passed, cell_refused}
use Rattle.vpf_table.proofs.walking.skip_row.Goals as goal

pub returns-in_err-past-clause-exact : goal.returns-in_err-past-clause-exact
returns-in_err-past-clause-exact c =
    let p = err_from_is_err_and c.from_residual.result c.from_residual.ensures.1 in
    let cols = c.args.header.now.columns in
    let here = c.loop-i.here in
    let o = c.order-order.result in
    let bytes = c.args.bytes.now in
    let stop = cell_refused o (col c.at.result.now) (drop (c.loop-i.i + 1) cols) bytes here _ c.in_err-past.ensures.exact in
    rw (p.1, p.2) (sym stop ∙ ap (λ (cs : List Col). end_of (row_at o cs bytes here)) (sym (next_item cols c.loop-i.i (col c.at.result.now) c.at.ensures)) ∙ c.loop-i.invariant.same)

pub loop-i-preserved : goal.loop-i-preserved
loop-i-preserved c =
    let cols = c.args.header.now.columns in
    let here = c.loop-i.here in
    let o = c.order-order.result in
    let bytes = c.args.bytes.now in
    let go = cell_passed o (col c.at.result.now) (drop (c.loop-i.i + 1) cols) bytes here c.in_ok-past.past c.in_ok-past.ensures.exact in
    record {
      same = sym go ∙ ap (λ (cs : List Col). end_of (row_at o cs bytes here)) (sym (next_item cols c.loop-i.i (col c.at.result.now) c.at.ensures)) ∙ c.loop-i.invariant.same;
      order = c.loop-i.invariant.order;
      inside = c.in_ok-past.ensures.inside;
    }

pub returns-clause-exact : goal.returns-clause-exact
returns-clause-exact c = sym (row_done c.order-order.result (drop c.loop-i.i c.args.header.now.columns) c.args.bytes.now c.loop-i.here (drop_all c.loop-i.i c.args.header.now.columns (omega arith))) ∙ c.loop-i.invariant.same
