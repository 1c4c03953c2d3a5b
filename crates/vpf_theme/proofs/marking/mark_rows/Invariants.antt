use Rattle.std.proofs.Common.{◌≡◌, ◌<◌, ◌+◌, ◌||◌, ◌==◌, ℕ, false, length, get_or}
use Rattle.std.specs.List.{list_any}
use Rattle.vpf_theme.specs.Entries.{AreRows}
use Rattle.vpf_theme.proofs.marking.mark_rows.Given as goal

abbrev pub invariant-loop-row : goal.invariant-loop-row
invariant-loop-row l = record {
  rows : AreRows (length l.marks) l.row-iterator.left;
  marks : (k : ℕ) → k < length l.marks → (get_or l.marks k false || list_any (λ row. row == k + 1) l.row-iterator.left) ≡ (get_or l.fn.marks k false || list_any (λ row. row == k + 1) l.fn.hits.left);
}
