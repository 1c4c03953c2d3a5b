-- The grid as a map of darts.
use Rattle.std.specs.Prelude.{◌≡◌, ℕ, ◌+◌, ◌-◌, ◌*◌, if◌then◌else◌, Bool, nat_lt, List, [], ◌∷◌, map}
use Rattle.std.specs.List.{range_with_len}
use Rattle.vpf_darts.specs.Cycles.{IsCycle, count_of}
use Rattle.vpf_darts.specs.Darts.{flip}
use Rattle.vpf_darts.specs.Maps.{DartMap}
use Rattle.vpf_darts.specs.MapLists.{is_among}
use Rattle.vpf_vectors.specs.Cells.Corners.{Way, East, North, West, South, Arrow, leads, next_arrow}
use Rattle.vpf_vectors.specs.Cells.Numbers.{edges, number_from, arrow_number, arrow_in, arrow_face, arrow_tail, arrow_head}

-- whether the grid has a dart with the number
abbrev pub has_dart : ℕ → ℕ → Bool
has_dart n dart = is_among (2 * edges n) dart

-- the number of the next dart; any other number is kept
abbrev pub next_in_grid : ℕ → ℕ → ℕ
next_in_grid n dart = if has_dart n dart then arrow_number n (next_arrow n (arrow_in n dart)) else dart

-- the darts, their nexts and their other darts
abbrev pub grid_map : ℕ → DartMap
grid_map n = record { has = has_dart n; next = next_in_grid n; flip = flip; live = has_dart n }

-- the node where the dart with the number begins
abbrev pub tail_in : ℕ → ℕ → ℕ
tail_in n dart = arrow_tail n (arrow_in n dart)

-- the node where it ends
abbrev pub head_in : ℕ → ℕ → ℕ
head_in n dart = arrow_head n (arrow_in n dart)

-- the face to its right
abbrev pub face_in : ℕ → ℕ → ℕ
face_in n dart = arrow_face n (arrow_in n dart)

-- the list is a cycle of next, and holds exactly these darts
pub record IsOneCycle (next : ℕ → ℕ) (among : ℕ → Bool) (darts : List ℕ) : Type 0 where
  pub cycle : IsCycle next darts
  pub once : (d : ℕ) → count_of d darts ≡ (if among d then 1 else 0)

-- the numbers of those of some directions that are there
abbrev pub pick : (Way → Bool) → (Way → ℕ) → List Way → List ℕ
pick there number [] = []
pick there number (w ∷ ws) = if there w then number w ∷ pick there number ws else pick there number ws

-- the darts that leave a corner, round it
abbrev pub node_darts : ℕ → ℕ → ℕ → List ℕ
node_darts n x y = pick (leads n x y) (number_from n x y) (East ∷ North ∷ West ∷ South ∷ [])

-- the darts of the cell with the lower corner (x, y), along it
abbrev pub cell_darts : ℕ → ℕ → ℕ → List ℕ
cell_darts n x y = number_from n (x + 1) y West ∷ number_from n x y North ∷ number_from n x (y + 1) East ∷ number_from n (x + 1) (y + 1) South ∷ []

-- the dart at a place of the border, from the lower left corner on
abbrev pub border_arrow : ℕ → ℕ → Arrow
border_arrow n i =
    if nat_lt i n then record { x = i; y = 0; way = East }
    else if nat_lt i (2 * n) then record { x = n; y = i - n; way = North }
    else if nat_lt i (3 * n) then record { x = 3 * n - i; y = n; way = West }
    else record { x = 0; y = 4 * n - i; way = South }

-- its number
abbrev pub border_dart : ℕ → ℕ → ℕ
border_dart n i = arrow_number n (border_arrow n i)

-- the darts of face 1, along the border
abbrev pub border_darts : ℕ → List ℕ
border_darts n = map (border_dart n) (range_with_len 0 (4 * n))
