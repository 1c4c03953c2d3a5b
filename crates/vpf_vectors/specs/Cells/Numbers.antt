-- The numbers of the grid's nodes, edges, darts and faces.
use Rattle.std.specs.Prelude.{ℕ, ◌+◌, ◌-◌, ◌*◌, ◌/◌, ◌%◌, Bool, ◌&&◌, nat_le, if◌then◌else◌, ◌==◌}
use Rattle.vpf_darts.specs.Darts.{code}
use Rattle.vpf_vectors.specs.Cells.Corners.{Way, Arrow, East, North, West, South, head_x, head_y, right_x, right_y}

-- the number of a node
unfoldable pub node_of : ℕ → ℕ → ℕ → ℕ
node_of n x y = y * (n + 1) + x + 1

-- the x of the corner with the number
unfoldable pub node_x : ℕ → ℕ → ℕ
node_x n node = (node - 1) % (n + 1)

-- its y
unfoldable pub node_y : ℕ → ℕ → ℕ
node_y n node = (node - 1) / (n + 1)

-- the edge from (x, y) to (x + 1, y)
unfoldable pub east_edge : ℕ → ℕ → ℕ → ℕ
east_edge n x y = y * n + x + 1

-- the edge from (x, y) to (x, y + 1)
unfoldable pub north_edge : ℕ → ℕ → ℕ → ℕ
north_edge n x y = n * (n + 1) + x * n + y + 1

-- how many nodes there are
unfoldable pub nodes : ℕ → ℕ
nodes n = (n + 1) * (n + 1)

-- how many edges
unfoldable pub edges : ℕ → ℕ
edges n = 2 * (n * (n + 1))

-- how many faces, face 1 included, which is all outside
unfoldable pub faces : ℕ → ℕ
faces n = n * n + 1

-- the number of a dart; that of an edge to the east or to the north is the + dart
abbrev pub number_from : ℕ → ℕ → ℕ → Way → ℕ
number_from n x y East = code 0 (east_edge n x y) 0
number_from n x y North = code 0 (north_edge n x y) 0
number_from n x y West = code 0 (east_edge n (x - 1) y) 1
number_from n x y South = code 0 (north_edge n x (y - 1)) 1

-- the same of a dart by its corner and direction
abbrev pub arrow_number : ℕ → Arrow → ℕ
arrow_number n a = number_from n a.x a.y a.way

-- the line of a dart's edge: n edges are a line, of which 0 to n lead to the east, and n + 1 to 2 n + 1 to the north
unfoldable pub line_in : ℕ → ℕ → ℕ
line_in n dart = (dart / 2 - 1) / n

-- the place of its edge in the line, from 0
unfoldable pub line_place : ℕ → ℕ → ℕ
line_place n dart = (dart / 2 - 1) % n

-- the dart of a sign at a place of a line
abbrev pub arrow_at : ℕ → ℕ → ℕ → ℕ → Arrow
arrow_at n line place sign =
    if nat_le line n
    then (if sign == 0 then record { x = place; y = line; way = East } else record { x = place + 1; y = line; way = West })
    else (if sign == 0 then record { x = line - (n + 1); y = place; way = North } else record { x = line - (n + 1); y = place + 1; way = South })

-- the dart with the number
abbrev pub arrow_in : ℕ → ℕ → Arrow
arrow_in n dart = arrow_at n (line_in n dart) (line_place n dart) (dart % 2)

-- whether the grid has the cell, counted from 1
abbrev pub has_cell : ℕ → ℕ → ℕ → Bool
has_cell n x y = (nat_le 1 x && nat_le x n) && (nat_le 1 y && nat_le y n)

-- the number of the face of a cell, counted from 1
unfoldable pub face_at : ℕ → ℕ → ℕ → ℕ
face_at n x y = if has_cell n x y then 2 + (y - 1) * n + (x - 1) else 1

-- the x of the lower corner of the cell of a face
unfoldable pub cell_x : ℕ → ℕ → ℕ
cell_x n face = (face - 2) % n

-- its y
unfoldable pub cell_y : ℕ → ℕ → ℕ
cell_y n face = (face - 2) / n

-- the face of a dart: the one to its right
abbrev pub arrow_face : ℕ → Arrow → ℕ
arrow_face n a = face_at n (right_x a) (right_y a)

-- the node where a dart begins
abbrev pub arrow_tail : ℕ → Arrow → ℕ
arrow_tail n a = node_of n a.x a.y

-- the node where it ends
abbrev pub arrow_head : ℕ → Arrow → ℕ
arrow_head n a = node_of n (head_x a) (head_y a)
