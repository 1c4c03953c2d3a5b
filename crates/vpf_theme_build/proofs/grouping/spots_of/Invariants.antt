use Rattle.std.proofs.Common.{◌≡◌, ◌+◌, ◌++◌, length, map}
use Rattle.std.specs.Prelude.{All, slice_index_or}
use Rattle.vpf_value.specs.Values.{Nothing}
use Rattle.vpf_table.specs.Grid.{Row}
use Rattle.vpf_table.specs.Canonical.{FitsRow}
use Rattle.vpf_theme.specs.Findings.{cells_of}
use Rattle.vpf_theme_build.specs.Grouping.{FitColumn, numbered_cells, seen}
use Rattle.vpf_theme_build.proofs.grouping.spots_of.Given as goal

abbrev pub invariant-loop-row : goal.invariant-loop-row
invariant-loop-row l = record {
  spots : map seen l.spots.items ++ numbered_cells (l.k + 1) (map (λ (row : Row). slice_index_or row l.column Nothing) l.row-iterator) ≡ numbered_cells 1 (cells_of l.table l.column);
  fits : FitColumn l.table l.column l.spots.items;
  width : All (λ row. length row ≡ length l.table.head.columns) l.row-iterator;
  rows : All (FitsRow l.table.head.columns) l.row-iterator;
  count : l.k + length l.row-iterator ≡ length l.table.rows;
}
