use Rattle.std.proofs.Common.{◌+◌, ◌++◌, drop, ◌∙◌, arith}
use Rattle.vpf_base.proofs.Lists.{next_item}
use Rattle.vpf_feed.proofs.Steps.{cell_inside}
use Rattle.vpf_feed.proofs.walking.pass_cell.Goals as goal

pub returns-in-Whole-clause-comes : goal.returns-in-Whole-clause-comes
returns-in-Whole-clause-comes c =
    let form = c.args.form.now in
    let all = form.fields.items in
    let walk = c.args.walk in
    let f = c.field_at.result in
    let n = c.in-Whole.len in
    λ more. c.advance.ensures.comes (drop n c.args.rest.now ++ more) ∙ cell_inside form.order all (drop walk.column all) f (drop (walk.column + 1) all) walk.done walk.at (walk.here + n) n c.args.rest.now more (next_item all walk.column f c.field_at.ensures) (omega (arith, c.requires.begun.there)) c.in-Whole.ensures.1 (c.in-Whole.ensures.2 more)
