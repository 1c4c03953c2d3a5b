use Rattle.std.proofs.Common.{◌≡◌, ◌++◌, drop}
use Rattle.vpf_feed.specs.Inner.RowForm.Form.{form_fields}
use Rattle.vpf_feed.proofs.row_form.form.fields_in.Given as goal

abbrev pub invariant-loop-i : goal.invariant-loop-i
invariant-loop-i l = l.fields.items ++ form_fields (drop l.i l.header.columns) ≡ form_fields l.header.columns
