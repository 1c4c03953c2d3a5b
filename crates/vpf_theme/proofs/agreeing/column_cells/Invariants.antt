use Rattle.std.proofs.Common.{◌≡◌, ◌++◌, length, map}
use Rattle.std.specs.Prelude.{All, slice_index_or}
use Rattle.vpf_value.specs.Values.{view, Nothing}
use Rattle.vpf_table.specs.Grid.{Row}
use Rattle.vpf_theme.specs.Findings.{cells_of}
use Rattle.vpf_theme.proofs.agreeing.column_cells.Given as goal

abbrev pub invariant-loop-row : goal.invariant-loop-row
invariant-loop-row l = record {
  cells : map view l.cells.items ++ map (λ (row : Row). slice_index_or row l.column Nothing) l.row-iterator ≡ cells_of l.table l.column;
  width : All (λ row. length row ≡ length l.table.head.columns) l.row-iterator;
}
