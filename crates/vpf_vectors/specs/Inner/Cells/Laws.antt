-- What is so of the grid of n by n cells, for each n from 1.
use Rattle.std.specs.Prelude.{◌≡◌, ◌≢◌, ℕ, ◌+◌, ◌*◌, ◌/◌, ◌%◌, ◌<◌, ◌≤◌, true, ◌&&◌, ◌==◌, length}
use Rattle.vpf_darts.specs.Cycles.{IsListing}
use Rattle.vpf_darts.specs.Darts.{flip}
use Rattle.vpf_darts.specs.Maps.{IsMap, turn}
use Rattle.vpf_vectors.specs.Cells.Corners.{Arrow, has_arrow, flip_arrow, next_arrow, next_by_cases}
use Rattle.vpf_vectors.specs.Cells.Numbers.{nodes, faces, east_edge, north_edge, node_of, node_x, node_y, arrow_number, arrow_in, face_at, cell_x, cell_y}
use Rattle.vpf_vectors.specs.Cells.Maps.{has_dart, next_in_grid, grid_map, tail_in, head_in, face_in, IsOneCycle, node_darts, cell_darts, border_darts}
use Rattle.vpf_vectors.specs.Cells.Rows.{start_dart, start_edge, first_edge, face_darts, face_cycles, row_of_edge, east_row, north_row, tile_of}

-- the next is the one by cases
abbrev pub NextByCases : Type 0
NextByCases = (n : ℕ) (a : Arrow) → 1 ≤ n → has_arrow n a ≡ true → next_arrow n a ≡ next_by_cases n a

-- each dart at a corner has a number that gives it back
abbrev pub NumbersNameArrows : Type 0
NumbersNameArrows = (n : ℕ) (a : Arrow) → has_arrow n a ≡ true → (has_dart n (arrow_number n a) ≡ true) × (arrow_in n (arrow_number n a) ≡ a)

-- each number of a dart is that of one at a corner
abbrev pub ArrowsHaveNumbers : Type 0
ArrowsHaveNumbers = (n dart : ℕ) → 1 ≤ n → has_dart n dart ≡ true → (has_arrow n (arrow_in n dart) ≡ true) × (arrow_number n (arrow_in n dart) ≡ dart)

-- the two darts of an edge are each other's way back
abbrev pub FlipIsBack : Type 0
FlipIsBack = (n : ℕ) (a : Arrow) → has_arrow n a ≡ true → flip (arrow_number n a) ≡ arrow_number n (flip_arrow a)

-- each corner has the number of a node, which gives it back
abbrev pub NodesNameCorners : Type 0
NodesNameCorners = (n x y : ℕ) → x ≤ n → y ≤ n
    → (1 ≤ node_of n x y) × (node_of n x y ≤ nodes n) × (node_x n (node_of n x y) ≡ x) × (node_y n (node_of n x y) ≡ y)

-- each number of a node is that of a corner
abbrev pub CornersHaveNodes : Type 0
CornersHaveNodes = (n k : ℕ) → 1 ≤ k → k ≤ nodes n → (node_x n k ≤ n) × (node_y n k ≤ n) × (node_of n (node_x n k) (node_y n k) ≡ k)

-- each cell has the number of a face but 1, which gives it back
abbrev pub FacesNameCells : Type 0
FacesNameCells = (n x y : ℕ) → x < n → y < n
    → (2 ≤ face_at n (x + 1) (y + 1)) × (face_at n (x + 1) (y + 1) ≤ faces n) × (cell_x n (face_at n (x + 1) (y + 1)) ≡ x)
    × (cell_y n (face_at n (x + 1) (y + 1)) ≡ y)

-- each number of a face but 1 is that of a cell
abbrev pub CellsHaveFaces : Type 0
CellsHaveFaces = (n f : ℕ) → 1 ≤ n → 2 ≤ f → f ≤ faces n → (cell_x n f < n) × (cell_y n f < n) × (face_at n (cell_x n f + 1) (cell_y n f + 1) ≡ f)

-- the nodes and the face of a dart are there
pub record HasNodesAndFace (n dart : ℕ) : Type 0 where
  pub tail : (1 ≤ tail_in n dart) × (tail_in n dart ≤ nodes n)
  pub head : (1 ≤ head_in n dart) × (head_in n dart ≤ nodes n)
  pub face : (1 ≤ face_in n dart) × (face_in n dart ≤ faces n)

-- so it is of each dart
abbrev pub DartsAreInRange : Type 0
DartsAreInRange = (n dart : ℕ) → 1 ≤ n → has_dart n dart ≡ true → HasNodesAndFace n dart

-- the next of a dart begins where it ends, and keeps its face; so does the other dart of the edge begin where it ends; no edge is
-- a loop, or has one face on both sides
pub record NextFits (n dart : ℕ) : Type 0 where
  pub tail : tail_in n (next_in_grid n dart) ≡ head_in n dart
  pub face : face_in n (next_in_grid n dart) ≡ face_in n dart
  pub back : tail_in n (flip dart) ≡ head_in n dart
  pub no_loop : tail_in n dart ≢ head_in n dart
  pub sides : face_in n dart ≢ face_in n (flip dart)

-- so it is of each dart
abbrev pub NextsFit : Type 0
NextsFit = (n dart : ℕ) → 1 ≤ n → has_dart n dart ≡ true → NextFits n dart

-- the darts and their nexts are a map
abbrev pub GridIsMap : Type 0
GridIsMap = (n : ℕ) → 1 ≤ n → IsMap (grid_map n)

-- the darts that leave a node are one cycle of turn
abbrev pub NodeIsOneCycle : Type 0
NodeIsOneCycle = (n x y : ℕ) → 1 ≤ n → x ≤ n → y ≤ n → IsOneCycle (turn (grid_map n)) (λ d. has_dart n d && (tail_in n d == node_of n x y)) (node_darts n x y)

-- the darts of a face are one cycle
abbrev pub FaceIsOneCycle : Type 0
FaceIsOneCycle = (n f : ℕ) → 1 ≤ n → 1 ≤ f → f ≤ faces n → IsOneCycle (next_in_grid n) (λ d. has_dart n d && (face_in n d == f)) (face_darts n f)

-- the darts of a cell are one cycle, of four
abbrev pub CellIsOneCycle : Type 0
CellIsOneCycle = (n x y : ℕ) → x < n → y < n → IsOneCycle (next_in_grid n) (λ d. has_dart n d && (face_in n d == face_at n (x + 1) (y + 1))) (cell_darts n x y)

-- the darts of face 1 are one cycle, of 4 n
abbrev pub BorderIsOneCycle : Type 0
BorderIsOneCycle = (n : ℕ) → 1 ≤ n → IsOneCycle (next_in_grid n) (λ d. has_dart n d && (face_in n d == 1)) (border_darts n) × (length (border_darts n) ≡ 4 * n)

-- the ring of a face starts at the edge of the least dart that has the face
pub record IsLeastDart (n face dart : ℕ) : Type 0 where
  pub there : has_dart n dart ≡ true
  pub of_face : face_in n dart ≡ face
  pub of_edge : dart / 2 ≡ start_edge face
  pub least : (d : ℕ) → has_dart n d ≡ true → face_in n d ≡ face → dart ≤ d

-- so it is of each face
abbrev pub RingsStartLeast : Type 0
RingsStartLeast = (n f : ℕ) → 1 ≤ n → 1 ≤ f → f ≤ faces n → IsLeastDart n f (start_dart f)

-- the first edge of a node is the least edge with a dart that leaves it
pub record IsLeastEdge (n node edge : ℕ) : Type 0 where
  pub dart : ℕ
  pub there : has_dart n dart ≡ true
  pub leaves : tail_in n dart ≡ node
  pub of_edge : dart / 2 ≡ edge
  pub least : (d : ℕ) → has_dart n d ≡ true → tail_in n d ≡ node → edge ≤ d / 2

-- so it is of each node
abbrev pub FirstEdgesAreLeast : Type 0
FirstEdgesAreLeast = (n k : ℕ) → 1 ≤ n → 1 ≤ k → k ≤ nodes n → IsLeastEdge n k (first_edge n k)

-- the boundaries of the faces are the listing of the grid's cycles
abbrev pub FacesAreListed : Type 0
FacesAreListed = (n : ℕ) → 1 ≤ n → IsListing (next_in_grid n) (has_dart n) (face_cycles n)

-- the rows of the edges to the east, as corners say them
abbrev pub EastRows : Type 0
EastRows = (n x y : ℕ) → 1 ≤ n → x < n → y ≤ n → row_of_edge n (east_edge n x y) ≡ east_row n x y

-- and of the edges to the north
abbrev pub NorthRows : Type 0
NorthRows = (n x y : ℕ) → 1 ≤ n → x ≤ n → y < n → row_of_edge n (north_edge n x y) ≡ north_row n x y

-- where n is even, the home tiles of the faces but 1 are among the tiles 1 to n / 2 * (n / 2)
abbrev pub FacesHaveTiles : Type 0
FacesHaveTiles = (n f : ℕ) → 1 ≤ n → n % 2 ≡ 0 → 2 ≤ f → f ≤ faces n → (1 ≤ tile_of n f) × (tile_of n f ≤ n / 2 * (n / 2))

-- and each of these tiles is the home of a face
abbrev pub TilesHaveFaces : Type 0
TilesHaveFaces = (n t : ℕ) → 1 ≤ n → n % 2 ≡ 0 → 1 ≤ t → t ≤ n / 2 * (n / 2) → (f : ℕ) × (2 ≤ f) × (f ≤ faces n) × (tile_of n f ≡ t)

-- where n is even, the tile lines are the edges on the lines of even numbers: of the edges to the east
abbrev pub EastLines : Type 0
EastLines = (n x y : ℕ) → 1 ≤ n → n % 2 ≡ 0 → x < n → y ≤ n → (row_of_edge n (east_edge n x y)).tile_line ≡ (y % 2 == 0)

-- and of the edges to the north
abbrev pub NorthLines : Type 0
NorthLines = (n x y : ℕ) → 1 ≤ n → n % 2 ≡ 0 → x ≤ n → y < n → (row_of_edge n (north_edge n x y)).tile_line ≡ (x % 2 == 0)
