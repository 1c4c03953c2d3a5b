use Rattle.std.proofs.Common.{◌≡◌, map, take}
use Rattle.std.specs.List.{enumerate_from}
use Rattle.vpf_write.specs.Inner.Tallies.{Holds}
use Rattle.vpf_vectors.specs.Heads.{ring_head}
use Rattle.vpf_vectors.specs.Tables.{ring_cells}
use Rattle.vpf_vectors.proofs.tables.ring_table.Given as goal

abbrev pub invariant-loop-i : goal.invariant-loop-i
invariant-loop-i l = record {
  head : l.writer.head ≡ ring_head;
  holds : Holds l.writer (map ring_cells (take l.i (enumerate_from 1 l.rows)));
}
