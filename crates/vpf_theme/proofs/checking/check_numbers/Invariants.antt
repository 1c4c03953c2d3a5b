use Rattle.std.proofs.Common.{◌≡◌, ◌-◌}
use Rattle.vpf_findings.specs.Firsts.{first_over}
use Rattle.vpf_theme.specs.Reading.{number_line}
use Rattle.vpf_theme.proofs.checking.check_numbers.Given as goal

abbrev pub invariant-loop-k : goal.invariant-loop-k
invariant-loop-k l = first_over (number_line l.layout l.bytes l.extent.offset) l.k (l.extent.count - l.k) ≡ first_over (number_line l.layout l.bytes l.extent.offset) 0 l.extent.count
