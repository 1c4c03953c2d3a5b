use Rattle.std.proofs.Common.{arith}
use Rattle.vpf_feed.proofs.row_form.Passing.{row_passed_whole}
use Rattle.vpf_feed.proofs.walking.pass_row.Goals as goal

pub returns-clause-comes : goal.returns-clause-comes
returns-clause-comes c = λ more.
    let form = c.args.form.now in
    let walk = c.args.walk in
    let row = c.in_ok-used.ensures in
    rw c.requires.between.there (row_passed_whole form.order form.fields.items walk.done walk.at c.in_ok-used.used c.args.rest.now more
    (omega (arith, c.requires.between.few, c.if-walk-eq-MOST_ROWS.false)) (omega (arith, c.if-used-eq0.false)) row.inside (row.row walk.at more))
