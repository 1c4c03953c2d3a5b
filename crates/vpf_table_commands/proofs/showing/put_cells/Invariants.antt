use Rattle.std.proofs.Common.{◌≡◌, ◌++◌, ◌+◌, length, drop, string_bytes}
use Rattle.vpf_table_commands.specs.Show.{cells_text}
use Rattle.vpf_table_commands.proofs.showing.put_cells.Given as goal

abbrev pub invariant-loop-cell : goal.invariant-loop-cell
invariant-loop-cell l = record {
  done : string_bytes l.text ++ cells_text (drop l.c l.header.columns) l.cell-iterator ≡ string_bytes l.fn.text ++ cells_text l.header.columns l.fn.cells;
  place : l.c + length l.cell-iterator ≡ length l.header.columns;
}
