use Rattle.std.proofs.Common.{◌≡◌, ◌++◌, drop, map}
use Rattle.vpf_value.specs.Values.{view}
use Rattle.vpf_table.specs.Canonical.{FitsRow, row_text}
use Rattle.vpf_write.proofs.draft.put_cells.Given as goal

abbrev pub invariant-loop-c : goal.invariant-loop-c
invariant-loop-c l = record {
  fits : FitsRow (drop l.c l.header.columns) (drop l.c (map view l.cells));
  done : l.out.items ++ row_text l.header.order (drop l.c l.header.columns) (drop l.c (map view l.cells)) ≡ l.fn.out.items ++ row_text l.header.order l.header.columns (map view l.cells);
}
