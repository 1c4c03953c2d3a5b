use Rattle.std.proofs.Common.{◌≡◌, ◌-◌, ◌≤◌, length, map}
use Rattle.std.specs.Prelude.{IfSome}
use Rattle.vpf_value.specs.Values.{view}
use Rattle.vpf_head.specs.Inner.Views.{col}
use Rattle.vpf_findings.specs.Firsts.{first_over}
use Rattle.vpf_theme.specs.Findings.{lines_at, entries_finding}
use Rattle.vpf_theme.proofs.agreeing.check_entries.Given as goal

abbrev pub invariant-loop-i : goal.invariant-loop-i
invariant-loop-i l = record {
  left : first_over (lines_at l.theme (col l.column) (map view l.cells)) l.i (length l.theme.entries - l.i) ≡ entries_finding l.theme (col l.column) (map view l.cells);
  ahead : IfSome l.repeat (λ r. l.i ≤ r.at);
}
