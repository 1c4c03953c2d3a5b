-- The definitions of the grid of 2 by 2 cells compute to the rows that are written out here by hand.
use Rattle.std.proofs.Common.{◌≡◌, ℕ, Bool, true, false, [], ◌∷◌, map, refl}
use Rattle.std.specs.List.{range_with_len}
use Rattle.vpf_darts.specs.Darts.{code, flip}
use Rattle.vpf_vectors.specs.declared.cells.rows.EdgeRow.{EdgeRow}
use Rattle.vpf_vectors.specs.declared.cells.rows.RingRow.{RingRow}
use Rattle.vpf_vectors.specs.Cells.Numbers.{nodes, faces, node_of, node_x, node_y, east_edge, north_edge, edges, line_in, line_place, face_at, cell_x, cell_y}
use Rattle.vpf_vectors.specs.Cells.Maps.{next_in_grid}
use Rattle.vpf_vectors.specs.Cells.Rows.{edge_rows, face_rows, ring_rows, node_rows, plan_rows, divides_tiles, start_edge}

abbrev row : ℕ → ℕ → ℕ → ℕ → ℕ → ℕ → Bool → EdgeRow
row a b c d e f l = record { start_node = a; end_node = b; right_face = c; left_face = d; right_edge = e; left_edge = f; tile_line = l }

abbrev ring : ℕ → ℕ → RingRow
ring f e = record { face_id = f; start_edge = e }

next_in-2 : map (next_in_grid 2) (range_with_len 2 24)
    ≡ 4 ∷ 14 ∷ 22 ∷ 18 ∷ 19 ∷ 16 ∷ 23 ∷ 20 ∷ 21 ∷ 17 ∷ 25 ∷ 11 ∷ 6 ∷ 2 ∷ 10 ∷ 15 ∷ 8 ∷ 3 ∷ 12 ∷ 7 ∷ 24 ∷ 5 ∷ 13 ∷ 9 ∷ []
unfolding code flip node_of node_x node_y east_edge north_edge edges line_in line_place face_at cell_x cell_y nodes faces divides_tiles start_edge
next_in-2 = refl

edge_rows-2 : edge_rows 2
    ≡ row 1 2 1 2 2 7 true ∷ row 2 3 1 3 11 9 true ∷ row 4 5 2 4 9 8 false ∷ row 5 6 3 5 11 10 false ∷ row 7 8 4 1 10 8 true ∷ row 8 9 5 1 12 5 true
    ∷ row 1 4 2 1 3 1 true ∷ row 4 7 4 1 5 7 true ∷ row 2 5 3 2 4 1 false ∷ row 5 8 5 4 6 3 false ∷ row 3 6 1 3 12 2 true ∷ row 6 9 1 5 6 4 true ∷ []
unfolding code flip node_of node_x node_y east_edge north_edge edges line_in line_place face_at cell_x cell_y nodes faces divides_tiles start_edge
edge_rows-2 = refl

face_rows-2 : face_rows 2 ≡ 1 ∷ 2 ∷ 3 ∷ 4 ∷ 5 ∷ []
unfolding code flip node_of node_x node_y east_edge north_edge edges line_in line_place face_at cell_x cell_y nodes faces divides_tiles start_edge
face_rows-2 = refl

ring_rows-2 : ring_rows 2 ≡ ring 1 1 ∷ ring 2 1 ∷ ring 3 2 ∷ ring 4 3 ∷ ring 5 4 ∷ []
unfolding code flip node_of node_x node_y east_edge north_edge edges line_in line_place face_at cell_x cell_y nodes faces divides_tiles start_edge
ring_rows-2 = refl

node_rows-2 : node_rows 2 ≡ 1 ∷ 1 ∷ 2 ∷ 3 ∷ 3 ∷ 4 ∷ 5 ∷ 5 ∷ 6 ∷ []
unfolding code flip node_of node_x node_y east_edge north_edge edges line_in line_place face_at cell_x cell_y nodes faces divides_tiles start_edge
node_rows-2 = refl

-- four tiles of four cells
plan_rows-4 : plan_rows 4 ≡ 1 ∷ 1 ∷ 2 ∷ 2 ∷ 1 ∷ 1 ∷ 2 ∷ 2 ∷ 3 ∷ 3 ∷ 4 ∷ 4 ∷ 3 ∷ 3 ∷ 4 ∷ 4 ∷ []
unfolding code flip node_of node_x node_y east_edge north_edge edges line_in line_place face_at cell_x cell_y nodes faces divides_tiles start_edge
plan_rows-4 = refl
