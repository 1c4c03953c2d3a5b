use Rattle.std.proofs.Common.{◌≡◌, ◌+◌, ◌≤◌, ◌++◌, List, ℕ, length, drop}
use Rattle.vpf_feed.specs.Inner.RowForm.Walk.{row_left}
use Rattle.vpf_feed.proofs.row_form.whole.whole_row.Given as goal

abbrev pub invariant-loop-i : goal.invariant-loop-i
invariant-loop-i l = record {
  inside : l.used ≤ length l.bytes;
  row : (at : ℕ) (more : List ℕ) → row_left l.form.order (drop l.i l.form.fields.items) (at + l.used) (drop l.used l.bytes ++ more) ≡ row_left l.form.order l.form.fields.items at (l.bytes ++ more);
}
