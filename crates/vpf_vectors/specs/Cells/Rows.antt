-- The rows of the grid.
use Rattle.std.specs.Prelude.{ℕ, ◌+◌, ◌-◌, ◌*◌, ◌/◌, Bool, not, ◌||◌, ◌==◌, nat_lt, if◌then◌else◌, List, map}
use Rattle.std.specs.List.{range_with_len}
use Rattle.vpf_darts.specs.Darts.{code}
use Rattle.vpf_vectors.specs.declared.cells.rows.EdgeRow.{EdgeRow}
use Rattle.vpf_vectors.specs.declared.cells.rows.RingRow.{RingRow}
use Rattle.vpf_vectors.specs.Cells.Numbers.{nodes, edges, faces, east_edge, north_edge, node_of, node_x, node_y, cell_x, cell_y, face_at}
use Rattle.vpf_vectors.specs.Cells.Maps.{next_in_grid, tail_in, head_in, face_in, border_darts, cell_darts}

-- the home tile of the cell with the lower corner (x, y): two by two cells are a tile
abbrev pub cell_tile : ℕ → ℕ → ℕ → ℕ
cell_tile n x y = 1 + y / 2 * (n / 2) + x / 2

-- the home tile of a face other than 1
abbrev pub tile_of : ℕ → ℕ → ℕ
tile_of n face = cell_tile n (cell_x n face) (cell_y n face)

-- whether an edge with these faces is a tile line
unfoldable pub divides_tiles : ℕ → ℕ → ℕ → Bool
divides_tiles n right left = (right == 1 || left == 1) || not (tile_of n right == tile_of n left)

-- the edge that follows the edge from (x, y) to the east round its right face
unfoldable pub after_east : ℕ → ℕ → ℕ → ℕ
after_east n x y =
    if nat_lt 0 y then north_edge n (x + 1) (y - 1)
    else if nat_lt (x + 1) n then east_edge n (x + 1) y
    else north_edge n (x + 1) y

-- and the same edge, run back, round its left face
unfoldable pub after_west : ℕ → ℕ → ℕ → ℕ
after_west n x y =
    if nat_lt y n then north_edge n x y
    else if nat_lt 0 x then east_edge n (x - 1) y
    else north_edge n x (y - 1)

-- the edge that follows the edge from (x, y) to the north round its right face
unfoldable pub after_north : ℕ → ℕ → ℕ → ℕ
after_north n x y =
    if nat_lt x n then east_edge n x (y + 1)
    else if nat_lt (y + 1) n then north_edge n x (y + 1)
    else east_edge n (x - 1) (y + 1)

-- and the same edge, run back, round its left face
unfoldable pub after_south : ℕ → ℕ → ℕ → ℕ
after_south n x y =
    if nat_lt 0 x then east_edge n (x - 1) y
    else if nat_lt 0 y then north_edge n x (y - 1)
    else east_edge n x y

-- the row of the edge from (x, y) to (x + 1, y): the cell (x, y) on its left, (x, y - 1) on its right
abbrev pub east_row : ℕ → ℕ → ℕ → EdgeRow
east_row n x y = record {
  start_node = node_of n x y;
  end_node = node_of n (x + 1) y;
  right_face = face_at n (x + 1) y;
  left_face = face_at n (x + 1) (y + 1);
  right_edge = after_east n x y;
  left_edge = after_west n x y;
  tile_line = divides_tiles n (face_at n (x + 1) y) (face_at n (x + 1) (y + 1));
}

-- the row of the edge from (x, y) to (x, y + 1): the cell (x - 1, y) on its left, (x, y) on its right
abbrev pub north_row : ℕ → ℕ → ℕ → EdgeRow
north_row n x y = record {
  start_node = node_of n x y;
  end_node = node_of n x (y + 1);
  right_face = face_at n (x + 1) (y + 1);
  left_face = face_at n x (y + 1);
  right_edge = after_north n x y;
  left_edge = after_south n x y;
  tile_line = divides_tiles n (face_at n (x + 1) (y + 1)) (face_at n x (y + 1));
}

-- the row of an edge, by its two darts
abbrev pub row_of_edge : ℕ → ℕ → EdgeRow
row_of_edge n e = record {
  start_node = tail_in n (code 0 e 0);
  end_node = head_in n (code 0 e 0);
  right_face = face_in n (code 0 e 0);
  left_face = face_in n (code 0 e 1);
  right_edge = next_in_grid n (code 0 e 0) / 2;
  left_edge = next_in_grid n (code 0 e 1) / 2;
  tile_line = divides_tiles n (face_in n (code 0 e 0)) (face_in n (code 0 e 1));
}

-- the least dart of a face
unfoldable pub start_dart : ℕ → ℕ
start_dart face = if face == 1 then code 0 1 0 else code 0 (face - 1) 1

-- the edge of that dart
unfoldable pub start_edge : ℕ → ℕ
start_edge face = if face == 1 then 1 else face - 1

-- the least edge at a node
abbrev pub first_edge : ℕ → ℕ → ℕ
first_edge n node = if node_x n node == 0 then node_y n node * n + 1 else node_y n node * n + node_x n node

-- the darts along a face
abbrev pub face_darts : ℕ → ℕ → List ℕ
face_darts n face = if face == 1 then border_darts n else cell_darts n (cell_x n face) (cell_y n face)

-- the darts along each face
abbrev pub face_cycles : ℕ → List (List ℕ)
face_cycles n = map (face_darts n) (range_with_len 1 (faces n))

-- the row of a ring: it is of the face with its number
abbrev pub grid_ring_row : ℕ → RingRow
grid_ring_row r = record { face_id = r; start_edge = start_edge r }

-- the edges, by rising number
abbrev pub edge_rows : ℕ → List EdgeRow
edge_rows n = map (row_of_edge n) (range_with_len 1 (edges n))

-- the first ring of each face
abbrev pub face_rows : ℕ → List ℕ
face_rows n = range_with_len 1 (faces n)

-- the rings
abbrev pub ring_rows : ℕ → List RingRow
ring_rows n = map grid_ring_row (range_with_len 1 (faces n))

-- the first edge of each node
abbrev pub node_rows : ℕ → List ℕ
node_rows n = map (first_edge n) (range_with_len 1 (nodes n))

-- the home tiles of the faces but 1
abbrev pub plan_rows : ℕ → List ℕ
plan_rows n = map (tile_of n) (range_with_len 2 (n * n))
