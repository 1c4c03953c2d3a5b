-- The cells of a column of a table that can be written.
use Rattle.std.proofs.Common.{◌≡◌, ℕ, length}
use Rattle.std.specs.Prelude.{slice_index_or}
use Rattle.std.proofs.lemmas.List.{length-map}
use Rattle.vpf_value.specs.Values.{Nothing}
use Rattle.vpf_table.specs.Grid.{Grid, Row}
use Rattle.vpf_theme.specs.Findings.{cells_of}

-- there are as many as rows
pub cells_many : (grid : Grid) (c : ℕ) → length (cells_of grid c) ≡ length grid.rows
cells_many grid c = length-map grid.rows (λ (row : Row). slice_index_or row c Nothing)
