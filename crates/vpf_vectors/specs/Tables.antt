-- The tables of a coverage whose rows are numbers, and of its tiles.
use Rattle.std.specs.Prelude.{ℕ, ◌-◌, List, [], ◌∷◌, ◌++◌, length, map, codes, pos, replicate, if◌then◌else◌}
use Rattle.std.specs.Fmt.{decimal}
use Rattle.std.specs.List.{range_with_len, enumerate_from}
use Rattle.vpf_head.specs.Bytes.{space}
use Rattle.vpf_value.specs.Values.{Value, TextOf, NumberOf}
use Rattle.vpf_head.specs.Head.{Head}
use Rattle.vpf_table.specs.Grid.{Row, Grid}
use Rattle.vpf_vectors.specs.declared.cells.rows.EdgeRow.{EdgeRow}
use Rattle.vpf_vectors.specs.declared.cells.rows.RingRow.{RingRow}
use Rattle.vpf_vectors.specs.Heads.{tileref_head, edge_head, ring_head, name_width}

-- the cell of a number
abbrev pub cell_of_number : ℕ → Value
cell_of_number k = NumberOf (pos k)

-- the name of a tile: `t` and its number
abbrev pub tile_name : ℕ → List ℕ
tile_name k = codes "t" ++ decimal k

-- the same, filled with spaces to the width of its column
abbrev pub padded_name : ℕ → List ℕ
padded_name k = tile_name k ++ replicate (name_width - length (tile_name k)) space

-- the cells of a tile
abbrev pub tile_cells : ℕ → Row
tile_cells k = cell_of_number k ∷ TextOf (padded_name k) ∷ []

-- the cells of an edge with its id
abbrev pub edge_cells : ℕ × EdgeRow → Row
edge_cells p = cell_of_number p.0 ∷ cell_of_number p.1.start_node ∷ cell_of_number p.1.end_node ∷ cell_of_number p.1.right_face ∷ cell_of_number p.1.left_face ∷ cell_of_number p.1.right_edge
    ∷ cell_of_number p.1.left_edge ∷ cell_of_number (if p.1.tile_line then 1 else 0) ∷ []

-- the cells of a ring with its id
abbrev pub ring_cells : ℕ × RingRow → Row
ring_cells p = cell_of_number p.0 ∷ cell_of_number p.1.face_id ∷ cell_of_number p.1.start_edge ∷ []

-- the cells of an id and the number that belongs to it
abbrev pub pair_cells : ℕ × ℕ → Row
pair_cells p = cell_of_number p.0 ∷ cell_of_number p.1 ∷ []

-- so many tiles, numbered from 1
abbrev pub grid_tileref : ℕ → Grid
grid_tileref tiles = record { head = tileref_head; rows = map tile_cells (range_with_len 1 tiles) }

-- edges, with their ids from 1
abbrev pub edge_table : List EdgeRow → Grid
edge_table rows = record { head = edge_head; rows = map edge_cells (enumerate_from 1 rows) }

-- rings, with their ids from 1
abbrev pub ring_table : List RingRow → Grid
ring_table rows = record { head = ring_head; rows = map ring_cells (enumerate_from 1 rows) }

-- numbers, under ids from the first on
abbrev pub pair_table : Head → ℕ → List ℕ → Grid
pair_table head first values = record { head = head; rows = map pair_cells (enumerate_from first values) }
