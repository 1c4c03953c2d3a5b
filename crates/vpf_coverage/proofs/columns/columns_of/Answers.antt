use Rattle.std.proofs.Common.{◌≡◌, ℕ, ◌-◌, ◌+◌, length, ap, ◌∙◌, arith}
use Rattle.std.proofs.lemmas.Result.{err_from_is_err_and}
use Rattle.vpf_findings.specs.Firsts.{first_over}
use Rattle.vpf_findings.specs.Inner.FirstLaws.{over_pass}
use Rattle.vpf_coverage.proofs.PlaceLemmas.{around_is, placed_length}
use Rattle.vpf_coverage.proofs.RightLemmas.{all_right, lines_whole, put_length, right_more, stops_all, tile_line}
use Rattle.vpf_coverage.proofs.columns.columns_of.Goals as goal

pub loop-t-init : goal.loop-t-init
loop-t-init c =
    let o = c.args.opened.now in
    let whole : length c.args.opened.now.tiles.items - 0 ≡ length c.args.opened.now.tiles.items = omega arith in
    record {
      left = ap (first_over (tile_line o) 0) whole ∙ lines_whole o c.requires.placed c.requires.counted;
      made = ap length c.in_ok-columns.ensures.items;
      right = λ k below. absurd (omega (arith, below));
    }

pub columns_at-requires-clause-around : goal.columns_at-requires-clause-around
columns_at-requires-clause-around c =
    let is = rw (c.is_some.ensures, c.as_slice-tiles.ensures.value) at c.new-around.ensures in
    around_is c.args.opened.now c.new-around.result c.requires.placed is

pub columns_at-requires-clause-few : goal.columns_at-requires-clause-few
columns_at-requires-clause-few c =
    let o = c.args.opened.now in
    let count = placed_length o.firsts.items o.tiles.items c.requires.placed.alike in
    let same : length c.as_slice-tiles.result.now ≡ length c.args.opened.now.tiles.items = ap length c.as_slice-tiles.ensures.value in
    omega (arith, c.loop-t-test.true, same, count, c.requires.counted.few)

pub returns-in_err-columns_at-clause-first : goal.returns-in_err-columns_at-clause-first
returns-in_err-columns_at-clause-first c =
    let o = c.args.opened.now in
    let around = around_is o c.new-around.result c.requires.placed (rw (c.is_some.ensures, c.as_slice-tiles.ensures.value) at c.new-around.ensures) in
    let same : length c.as_slice-tiles.result.now ≡ length c.args.opened.now.tiles.items = ap length c.as_slice-tiles.ensures.value in
    let first = rw around at c.in_err-columns_at.ensures.first in
    let p = err_from_is_err_and c.from_residual-in_err-columns_at.result c.from_residual-in_err-columns_at.ensures.1 in
    rw (p.1, p.2) (stops_all o c.loop-t.t c.in_err-columns_at.field-0.0 _ first (omega (arith, c.loop-t-test.true, same)) c.loop-t.invariant.left)

pub loop-t-preserved : goal.loop-t-preserved
loop-t-preserved c =
    let o = c.args.opened.now in
    let t = c.loop-t.t in
    let around = around_is o c.new-around.result c.requires.placed (rw (c.is_some.ensures, c.as_slice-tiles.ensures.value) at c.new-around.ensures) in
    let same : length c.as_slice-tiles.result.now ≡ length c.args.opened.now.tiles.items = ap length c.as_slice-tiles.ensures.value in
    let none = rw around at c.in_ok-columns_at.ensures.first in
    let pushed = c.in_ok-push.ensures.items in
    record {
      left = over_pass (tile_line o) t (length o.tiles.items) (omega (arith, c.loop-t-test.true, same)) none ∙ c.loop-t.invariant.left;
      made = put_length c.loop-t.columns.items c.push.new.self.items _ pushed ∙ ap (λ (n : ℕ). n + 1) c.loop-t.invariant.made;
      right = right_more o.tiles.items c.loop-t.columns.items c.push.new.self.items t c.in_ok-columns_at.field-0 c.loop-t.invariant.made pushed c.loop-t.invariant.right c.in_ok-columns_at.ensures.right;
    }

pub returns-clause-right : goal.returns-clause-right
returns-clause-right c =
    let o = c.args.opened.now in
    let same : length c.as_slice-tiles.result.now ≡ length c.args.opened.now.tiles.items = ap length c.as_slice-tiles.ensures.value in
    let count : length c.loop-t.columns.items ≡ length c.args.opened.now.tiles.items = omega (arith, c.loop-t-test.false, c.loop-t.auto.t-end, same, c.loop-t.invariant.made) in
    all_right o.tiles.items c.loop-t.columns.items count (λ k below. c.loop-t.invariant.right k (omega (arith, below, count, c.loop-t.invariant.made)))
