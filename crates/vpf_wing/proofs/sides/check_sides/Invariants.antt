use Rattle.std.proofs.Common.{◌≡◌}
use Rattle.vpf_findings.specs.Firsts.{first_of_rows}
use Rattle.vpf_wing.specs.CycleLines.{sides_line}
use Rattle.vpf_wing.proofs.RowLemmas.{from_row}
use Rattle.vpf_wing.proofs.sides.check_sides.Given as goal

abbrev pub invariant-loop-k : goal.invariant-loop-k
invariant-loop-k l = from_row (sides_line l.number l.tile l.cycles) l.k l.cycles ≡ first_of_rows (sides_line l.number l.tile l.cycles) 1 l.cycles
