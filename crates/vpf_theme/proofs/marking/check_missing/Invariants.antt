use Rattle.std.proofs.Common.{◌≡◌, ◌+◌, ◌-◌, not}
use Rattle.std.specs.Prelude.{find}
use Rattle.std.specs.List.{range_with_len}
use Rattle.vpf_theme.specs.Findings.{stands}
use Rattle.vpf_theme.proofs.marking.check_missing.Given as goal

abbrev pub invariant-loop-k : goal.invariant-loop-k
invariant-loop-k l = find (λ row. not (stands l.theme.entries row)) (range_with_len (l.k + 1) (l.theme.rows - l.k)) ≡ find (λ row. not (stands l.theme.entries row)) (range_with_len 1 l.theme.rows)
