use Rattle.std.proofs.Common.{◌≡◌, ◌+◌, ◌-◌, ℕ, sym, ap, ◌∙◌, arith}
use Rattle.std.proofs.lemmas.Result.{err_from_is_err_and}
use Rattle.vpf_base.specs.Limits.{most_rows}
use Rattle.vpf_table.proofs.WalkLemmas.{row_passed, row_refused, rows_full, rows_done}
use Rattle.vpf_table.specs.Reading.{rows_at}
use Rattle.vpf_table.specs.Walking.{counted}
use Rattle.vpf_table.proofs.counting.walked_count.Goals as goal

pub returns-then-rows-eq-MOST_ROWS : goal.returns-then-rows-eq-MOST_ROWS
returns-then-rows-eq-MOST_ROWS c = rw c.in_table.ensures (sym (rows_full (most_rows - c.loop-here.rows) c.loop-here.rows c.args.header.now.order c.args.header.now.columns c.args.bytes.now c.loop-here.here (omega arith) c.loop-here-test.true) ∙ c.loop-here.invariant.same)

pub returns-in_err-past : goal.returns-in_err-past
returns-in_err-past c =
    let p = err_from_is_err_and c.from_residual.result c.from_residual.ensures.1 in
    rw (p.1, p.2) (sym (row_refused (most_rows - c.loop-here.rows) c.loop-here.rows c.args.header.now.order c.args.header.now.columns c.args.bytes.now c.loop-here.here _ (λ z. omega arith) c.loop-here-test.true c.in_err-past.ensures.exact) ∙ c.loop-here.invariant.same)

pub loop-here-preserved : goal.loop-here-preserved
loop-here-preserved c =
    let rows = c.loop-here.rows in
    let e : most_rows - rows - 1 ≡ most_rows - (rows + 1) = omega arith in
    record {
      same = ap (λ (k : ℕ). counted (rows + 1) (rows_at k c.args.header.now.order c.args.header.now.columns c.args.bytes.now c.in_ok-past.past)) (sym e)
          ∙ sym (row_passed (most_rows - rows) rows c.args.header.now.order c.args.header.now.columns c.args.bytes.now c.loop-here.here c.in_ok-past.past (λ z. omega arith) c.loop-here-test.true c.in_ok-past.ensures.exact) ∙ c.loop-here.invariant.same;
      most = omega arith;
      inside = c.in_ok-past.ensures.inside;
    }

pub returns : goal.returns
returns c = sym (rows_done (most_rows - c.loop-here.rows) c.loop-here.rows c.args.header.now.order c.args.header.now.columns c.args.bytes.now c.loop-here.here c.loop-here-test.false) ∙ c.loop-here.invariant.same
