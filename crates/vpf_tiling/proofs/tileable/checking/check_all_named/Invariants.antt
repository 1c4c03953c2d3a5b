use Rattle.std.proofs.Common.{◌≡◌, ◌+◌, ◌-◌}
use Rattle.vpf_findings.specs.Firsts.{first_over}
use Rattle.vpf_tiling.specs.Tileable.Refusals.{no_plan, no_plans}
use Rattle.vpf_tiling.proofs.tileable.checking.check_all_named.Given as goal

abbrev pub invariant-loop-below : goal.invariant-loop-below
invariant-loop-below l = first_over (λ i. no_plan l.named (i + 1)) l.below (l.faces - l.below) ≡ no_plans l.named l.faces
