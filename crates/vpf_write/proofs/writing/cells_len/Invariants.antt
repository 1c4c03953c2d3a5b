use Rattle.std.proofs.Common.{◌≡◌, ◌<◌, ◌+◌, ◌-◌, ◌^◌, drop, map, length}
use Rattle.std.specs.Prelude.{min}
use Rattle.vpf_value.specs.Values.{view}
use Rattle.vpf_table.specs.Canonical.{FitsRow, row_text}
use Rattle.vpf_write.proofs.writing.cells_len.Given as goal

abbrev pub invariant-loop-c : goal.invariant-loop-c
invariant-loop-c l = record {
  fits : FitsRow (drop l.c l.header.columns) (drop l.c (map view l.cells));
  small : l.sum < 2 ^ 64;
  done : min (l.sum + length (row_text l.header.order (drop l.c l.header.columns) (drop l.c (map view l.cells)))) (2 ^ 64 - 1) ≡ min (length (row_text l.header.order l.header.columns (map view l.cells))) (2 ^ 64 - 1);
}
