use Rattle.std.proofs.Common.{◌≡◌, ◌*◌, ◌-◌, length}
use Rattle.vpf_findings.specs.Firsts.{first_over}
use Rattle.vpf_wing.specs.CycleLines.{ringless_line}
use Rattle.vpf_wing.proofs.rings.check_ringless.Given as goal

abbrev pub invariant-loop-place : goal.invariant-loop-place
invariant-loop-place l = first_over (ringless_line l.number l.tile l.cycles l.ring_cycles) l.place (2 * length l.cycles - l.place) ≡ first_over (ringless_line l.number l.tile l.cycles l.ring_cycles) 0 (2 * length l.cycles)
