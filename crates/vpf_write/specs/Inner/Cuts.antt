-- Cells in a row, and the rows that they are cut into.
use Rattle.std.specs.Prelude.{ℕ, zero, suc, ◌/◌, List, [], ◌∷◌, length, take, drop}
use Rattle.std.specs.List.{flat_map}
use Rattle.vpf_head.specs.Head.{Head}
use Rattle.vpf_table.specs.Grid.{Row, Grid}

-- cells in so many rows of so many, from the first on
unfoldable pub cut : ℕ → ℕ → Row → List Row
cut width zero cells = []
cut width (suc rows) cells = take width cells ∷ cut width rows (drop width cells)

-- the cells of rows, one row after another
abbrev pub joined : List Row → Row
joined rows = flat_map (λ row. row) rows

-- the table whose rows are these cells, cut after each last column
abbrev pub grid_of_cells : Head → Row → Grid
grid_of_cells h cells = record { head = h; rows = cut (length h.columns) (length cells / length h.columns) cells }
