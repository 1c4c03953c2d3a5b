use Rattle.std.proofs.Common.{◌≡◌, ◌-◌, map}
use Rattle.std.specs.List.{range_with_len}
use Rattle.vpf_write.specs.Inner.Tallies.{Holds}
use Rattle.vpf_vectors.specs.Heads.{tileref_head}
use Rattle.vpf_vectors.specs.Tables.{tile_cells}
use Rattle.vpf_vectors.proofs.tables.tileref_table.Given as goal

abbrev pub invariant-loop-tile : goal.invariant-loop-tile
invariant-loop-tile l = record {
  head : l.writer.head ≡ tileref_head;
  holds : Holds l.writer (map tile_cells (range_with_len 1 (l.tile - 1)));
}
