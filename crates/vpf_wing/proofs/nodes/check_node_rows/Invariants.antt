use Rattle.std.proofs.Common.{◌≡◌}
use Rattle.vpf_findings.specs.Firsts.{first_of_rows}
use Rattle.vpf_prims.specs.Reading.{primitives_of}
use Rattle.vpf_wing.specs.CycleLines.{node_lines, own_first_edges}
use Rattle.vpf_wing.proofs.RowLemmas.{from_row}
use Rattle.vpf_wing.proofs.nodes.check_node_rows.Given as goal

abbrev pub invariant-loop-k : goal.invariant-loop-k
invariant-loop-k l = from_row (node_lines l.number l.tile l.darts) l.k (own_first_edges (primitives_of l.tile.tables)) ≡ first_of_rows (node_lines l.number l.tile l.darts) 1 (own_first_edges (primitives_of l.tile.tables))
