use Rattle.std.proofs.Common.{◌≡◌}
use Rattle.vpf_findings.specs.Firsts.{first_of_rows}
use Rattle.vpf_wing.specs.CycleLines.{ring_lines}
use Rattle.vpf_wing.proofs.RowLemmas.{from_row}
use Rattle.vpf_wing.proofs.rings.check_ring_rows.Given as goal

abbrev pub invariant-loop-k : goal.invariant-loop-k
invariant-loop-k l = from_row (ring_lines l.number l.tile l.cycles l.faces l.ring_cycles) l.k l.rings ≡ first_of_rows (ring_lines l.number l.tile l.cycles l.faces l.ring_cycles) 1 l.rings
