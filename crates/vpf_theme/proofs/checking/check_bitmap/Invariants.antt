use Rattle.std.proofs.Common.{◌≡◌, ◌-◌, ◌*◌}
use Rattle.vpf_findings.specs.Firsts.{first_over}
use Rattle.vpf_theme.specs.Reading.{pad_line}
use Rattle.vpf_theme.proofs.checking.check_bitmap.Given as goal

abbrev pub invariant-loop-k : goal.invariant-loop-k
invariant-loop-k l = first_over (pad_line l.bytes l.extent.offset) l.k (8 * l.extent.count - l.k) ≡ first_over (pad_line l.bytes l.extent.offset) l.layout.rows (8 * l.extent.count - l.layout.rows)
