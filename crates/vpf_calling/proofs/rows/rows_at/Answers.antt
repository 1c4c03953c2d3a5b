use Rattle.std.proofs.Common.{◌∙◌}
use Rattle.vpf_calling.proofs.Havings.{never_wrong, rows_are, word_said}
use Rattle.vpf_calling.proofs.rows.rows_at.Goals as goal

pub returns-in-Ok : goal.returns-in-Ok
returns-in-Ok c =
    let g = c.args.table.now in
    let said = word_said g c.args.column c.args.word.now c.in_ok-value.field-0 c.requires c.in_ok-value.ensures.value in
    rows_are g c.args.column c.args.word.now c.in-Some.value c.in-Ok.rows.items (said ∙ c.in-Some.is) (rw c.cell-value.ensures at c.in-Ok.ensures.value)

pub returns-in-Err-Disagrees : goal.returns-in-Err-Disagrees
returns-in-Err-Disagrees c = never_wrong _ _ _ (rw c.in-Err-Disagrees.field-0-is at c.in-Err-Disagrees.ensures.value)
