use Rattle.std.proofs.Common.{◌≡◌, ◌+◌, length}
use Rattle.std.specs.Prelude.{All}
use Rattle.vpf_table.specs.Canonical.{FitsRow}
use Rattle.vpf_primitive_tables.proofs.tile_tables.TileLemmas.{IsPutBefore, tile_row}
use Rattle.vpf_primitive_tables.proofs.tile_tables.tiles.write_tiles.Given as goal

abbrev pub invariant-loop-row : goal.invariant-loop-row
invariant-loop-row l = record {
  head : l.made.head ≡ l.initial.made.head;
  fits : All (FitsRow l.tileref.head.columns) l.row-iterator;
  left : l.number + length l.row-iterator ≡ length l.tileref.rows;
  put : IsPutBefore l.made (tile_row l.tileref.head.columns) l.number l.row-iterator l.tileref.rows;
}
