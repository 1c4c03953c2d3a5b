use Rattle.std.proofs.Common.{◌≡◌, ◌-◌}
use Rattle.vpf_findings.specs.Firsts.{first_over}
use Rattle.vpf_theme.specs.Reading.{entry_line}
use Rattle.vpf_theme.proofs.checking.check_entries.Given as goal

abbrev pub invariant-loop-i : goal.invariant-loop-i
invariant-loop-i l = first_over (entry_line l.layout l.bytes) l.i (l.layout.entries - l.i) ≡ first_over (entry_line l.layout l.bytes) 0 l.layout.entries
