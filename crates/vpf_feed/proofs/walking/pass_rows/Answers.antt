use Rattle.std.proofs.Common.{◌≡◌, ◌+◌, ◌-◌, ◌*◌, ◌≤◌, ◌++◌, List, ℕ, length, drop, sym, ap, ◌∙◌, arith}
use Rattle.std.proofs.lemmas.List.{drop-append-le, length-append}
use Rattle.vpf_base.specs.Limits.{most_rows}
use Rattle.vpf_feed.specs.Inner.RowForm.Walk.{rows_to_come}
use Rattle.vpf_feed.proofs.row_form.Passing.{rows_passed}
use Rattle.vpf_feed.proofs.walking.pass_rows.Goals as goal

pub returns-clause-comes : goal.returns-clause-comes
returns-clause-comes c = λ (more : List ℕ).
    let form = c.args.form.now in
    let all = form.fields.items in
    let walk = c.args.walk in
    let rest = c.args.rest.now in
    let k = c.whole_rows-rows.result in
    let w = form.width in
    let inside : k * w ≤ length rest = c.whole_rows-rows.ensures.inside in
    let passed = rows_passed k (most_rows - walk.done) form.order all walk.done walk.at w (rest ++ more) c.whole_rows-rows.ensures.wide c.requires.form.wide (omega (arith, c.whole_rows-rows.ensures.few)) (omega (arith, inside, length-append rest more)) in
    let m : most_rows - walk.done - k ≡ most_rows - (walk.done + k) = omega arith in
    sym (passed ∙ ap (λ (n : ℕ). rows_to_come n form.order all (walk.done + k) (walk.at + k * w) (drop (k * w) (rest ++ more))) m ∙ ap (rows_to_come (most_rows - (walk.done + k)) form.order all (walk.done + k) (walk.at + k * w)) (drop-append-le (k * w) rest more inside))
