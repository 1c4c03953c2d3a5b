use Rattle.std.proofs.Common.{◌∙◌, arith}
use Rattle.vpf_table.specs.Canonical.{in_order}
use Rattle.vpf_write.specs.Inner.Drafts.{progress}
use Rattle.vpf_write.proofs.WholeTables.{estimate_stands, told_limit, begun_room, written_by}
use Rattle.vpf_write.specs.Inner.WholeLaws.{within_limits}
use Rattle.vpf_write.proofs.rewriting.write_under.Goals as goal

pub returns-in-Some : goal.returns-in-Some
returns-in-Some c =
    let g = in_order c.args.header.now.order c.args.table.now in
    let head = c.requires in
    let len = rw head at c.in_ok-len.ensures in
    let told = rw head at c.first_limit.ensures in
    told_limit g _ c.in_ok-len.len _ _ c.len-rows.ensures.value (estimate_stands g _ len) told c.in-Some.is

pub new-requires : goal.new-requires
new-requires c =
    let g = in_order c.args.header.now.order c.args.table.now in
    let head = c.requires in
    let len = rw head at c.in_ok-len.ensures in
    let told = rw head at c.first_limit.ensures in
    let none = told_limit g _ c.in_ok-len.len _ _ c.len-rows.ensures.value (estimate_stands g _ len) told c.in_default.is in
    rw head (within_limits g none).text_fits

pub put_rows-requires-clause-small : goal.put_rows-requires-clause-small
put_rows-requires-clause-small c =
    let g = in_order c.args.header.now.order c.args.table.now in
    let head = c.requires in
    let len = rw head at c.in_ok-len.ensures in
    let told = rw head at c.first_limit.ensures in
    let none = told_limit g _ c.in_ok-len.len _ _ c.len-rows.ensures.value (estimate_stands g _ len) told c.in_default.is in
    let begun = rw head at c.in_ok-draft.ensures in
    rw head (begun_room g (progress c.in_ok-draft.draft) begun none)

pub finish-requires-clause-short : goal.finish-requires-clause-short
finish-requires-clause-short c =
    let g = in_order c.args.header.now.order c.args.table.now in
    let head = c.requires in
    let len = rw head at c.in_ok-len.ensures in
    let told = rw head at c.first_limit.ensures in
    let none = told_limit g _ c.in_ok-len.len _ _ c.len-rows.ensures.value (estimate_stands g _ len) told c.in_default.is in
    rw head (within_limits g none).text_fits

pub finish-requires-clause-few : goal.finish-requires-clause-few
finish-requires-clause-few c =
    let g = in_order c.args.header.now.order c.args.table.now in
    let head = c.requires in
    let len = rw head at c.in_ok-len.ensures in
    let told = rw head at c.first_limit.ensures in
    let none = told_limit g _ c.in_ok-len.len _ _ c.len-rows.ensures.value (estimate_stands g _ len) told c.in_default.is in
    let begun = rw head at c.in_ok-draft.ensures in
    let put = rw head at c.in_ok-put_rows.ensures in
    let made = written_by g (progress c.in_ok-draft.draft) (progress c.put_rows.new.draft) begun put in
    omega (arith, made.few, (within_limits g none).rows_fit)

pub returns : goal.returns
returns c =
    let g = in_order c.args.header.now.order c.args.table.now in
    let head = c.requires in
    let len = rw head at c.in_ok-len.ensures in
    let told = rw head at c.first_limit.ensures in
    let none = told_limit g _ c.in_ok-len.len _ _ c.len-rows.ensures.value (estimate_stands g _ len) told c.in_default.is in
    let begun = rw head at c.in_ok-draft.ensures in
    let put = rw head at c.in_ok-put_rows.ensures in
    let made = written_by g (progress c.in_ok-draft.draft) (progress c.put_rows.new.draft) begun put in
    let index = rw head at c.in_ok-finish.ensures.index in
    (none, c.in_ok-finish.ensures.table ∙ made.table, index ∙ made.index)
