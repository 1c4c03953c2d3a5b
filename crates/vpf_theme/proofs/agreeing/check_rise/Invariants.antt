use Rattle.std.proofs.Common.{◌≡◌}
use Rattle.vpf_theme.specs.Findings.{first_fall}
use Rattle.vpf_theme.proofs.agreeing.check_rise.Given as goal

abbrev pub invariant-loop-row : goal.invariant-loop-row
invariant-loop-row l = first_fall l.before l.row-iterator.left ≡ first_fall 0 l.fn.hits.left
