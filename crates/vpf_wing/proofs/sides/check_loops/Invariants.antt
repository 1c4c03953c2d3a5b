use Rattle.std.proofs.Common.{◌≡◌}
use Rattle.vpf_prims.specs.Primitives.{own_edges}
use Rattle.vpf_prims.specs.Reading.{primitives_of}
use Rattle.vpf_wing.specs.CycleLines.{loop_line, loops_finding}
use Rattle.vpf_wing.proofs.RowLemmas.{from_row}
use Rattle.vpf_wing.proofs.sides.check_loops.Given as goal

abbrev pub invariant-loop-k : goal.invariant-loop-k
invariant-loop-k l = from_row (loop_line l.number l.tile) l.k (own_edges (primitives_of l.tile.tables)) ≡ loops_finding l.number l.tile
