use Rattle.std.proofs.Common.{◌≡◌, not, length, map}
use Rattle.std.specs.Prelude.{find}
use Rattle.vpf_value.specs.Values.{view}
use Rattle.vpf_theme.specs.Ordering.{same_value}
use Rattle.vpf_theme.specs.Findings.{cell_of}
use Rattle.vpf_theme.specs.Entries.{AreRows}
use Rattle.vpf_theme.proofs.agreeing.check_cells.Given as goal

abbrev pub invariant-loop-row : goal.invariant-loop-row
invariant-loop-row l = record {
  rows : AreRows (length l.cells) l.row-iterator.left;
  left : find (λ row. not (same_value (cell_of (map view l.cells) row) (view l.fn.value))) l.row-iterator.left ≡ find (λ row. not (same_value (cell_of (map view l.cells) row) (view l.fn.value))) l.fn.hits.left;
}
