use Rattle.std.proofs.Common.{◌≡◌, map, take}
use Rattle.std.specs.List.{enumerate_from}
use Rattle.vpf_write.specs.Inner.Tallies.{Holds}
use Rattle.vpf_vectors.specs.Tables.{pair_cells}
use Rattle.vpf_vectors.proofs.tables.pair_table.Given as goal

abbrev pub invariant-loop-i : goal.invariant-loop-i
invariant-loop-i l = record {
  head : l.writer.head ≡ l.header;
  holds : Holds l.writer (map pair_cells (take l.i (enumerate_from l.first l.values)));
}
