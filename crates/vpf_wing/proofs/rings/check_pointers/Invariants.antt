use Rattle.std.proofs.Common.{◌≡◌}
use Rattle.vpf_findings.specs.Firsts.{first_of_rows}
use Rattle.vpf_prims.specs.Reading.{primitives_of}
use Rattle.vpf_wing.specs.CycleLines.{own_pointers, pointer_line}
use Rattle.vpf_wing.proofs.RowLemmas.{from_row}
use Rattle.vpf_wing.proofs.rings.check_pointers.Given as goal

abbrev pub invariant-loop-k : goal.invariant-loop-k
invariant-loop-k l = from_row (pointer_line l.number l.tile l.faces) l.k (own_pointers (primitives_of l.tile.tables)) ≡ first_of_rows (pointer_line l.number l.tile l.faces) 1 (own_pointers (primitives_of l.tile.tables))
