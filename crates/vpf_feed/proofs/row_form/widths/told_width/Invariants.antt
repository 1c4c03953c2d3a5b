use Rattle.std.proofs.Common.{◌≡◌, Some, drop}
use Rattle.vpf_table.specs.Inner.Widths.{add_width}
use Rattle.vpf_feed.specs.Inner.RowForm.Widths.{told_row}
use Rattle.vpf_feed.proofs.row_form.widths.told_width.Given as goal

abbrev pub invariant-loop-i : goal.invariant-loop-i
invariant-loop-i l = add_width (Some l.sum) (told_row l.order (drop l.i l.fields)) ≡ told_row l.fn.order l.fn.fields
