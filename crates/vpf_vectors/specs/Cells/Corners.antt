-- The grid of n by n cells: its corners, and the darts that leave them.
use Rattle.std.specs.Prelude.{ℕ, ◌+◌, ◌-◌, Bool, ◌&&◌, nat_lt, nat_le, if◌then◌else◌}

-- the four directions
pub data Way : Type 0 where
  East : Way
  North : Way
  West : Way
  South : Way

-- a quarter turn to the right
abbrev pub right_of : Way → Way
right_of East = South
right_of North = East
right_of West = North
right_of South = West

-- a quarter turn to the left
abbrev pub left_of : Way → Way
left_of East = North
left_of North = West
left_of West = South
left_of South = East

-- the way back
abbrev pub back_of : Way → Way
back_of East = West
back_of North = South
back_of West = East
back_of South = North

-- a dart: the corner that it leaves, and its direction
pub record Arrow : Type 0 where
  pub x : ℕ
  pub y : ℕ
  pub way : Way

-- whether a dart of this direction leaves the corner (x, y)
abbrev pub leads : ℕ → ℕ → ℕ → Way → Bool
leads n x y East = nat_lt x n
leads n x y North = nat_lt y n
leads n x y West = nat_lt 0 x
leads n x y South = nat_lt 0 y

-- whether the grid has the dart
abbrev pub has_arrow : ℕ → Arrow → Bool
has_arrow n a = (nat_le a.x n && nat_le a.y n) && leads n a.x a.y a.way

-- the x of the corner one step on
abbrev pub step_x : Way → ℕ → ℕ
step_x East x = x + 1
step_x North x = x
step_x West x = x - 1
step_x South x = x

-- its y
abbrev pub step_y : Way → ℕ → ℕ
step_y East y = y
step_y North y = y + 1
step_y West y = y
step_y South y = y - 1

-- the x of the corner that the dart comes to
abbrev pub head_x : Arrow → ℕ
head_x a = step_x a.way a.x

-- its y
abbrev pub head_y : Arrow → ℕ
head_y a = step_y a.way a.y

-- the other dart of the edge
abbrev pub flip_arrow : Arrow → Arrow
flip_arrow a = record { x = head_x a; y = head_y a; way = back_of a.way }

-- the first of three directions that is there, where one is
abbrev pub first_way : (Way → Bool) → Way → Way → Way → Way
first_way there a b c = if there a then a else if there b then b else c

-- the next dart: at the head, the first that exists of turning right, going straight on, turning left
abbrev pub next_arrow : ℕ → Arrow → Arrow
next_arrow n a = record {
  x = head_x a;
  y = head_y a;
  way = first_way (leads n (head_x a) (head_y a)) (right_of a.way) a.way (left_of a.way);
}

-- the same by direction and border: along a cell its four sides, along the border straight on, and round
-- the corners of the grid to the left
abbrev pub next_from : ℕ → ℕ → ℕ → Way → Arrow
next_from n x y East =
    if nat_lt 0 y then record { x = x + 1; y = y; way = South }
    else if nat_lt (x + 1) n then record { x = x + 1; y = y; way = East }
    else record { x = x + 1; y = y; way = North }
next_from n x y North =
    if nat_lt x n then record { x = x; y = y + 1; way = East }
    else if nat_lt (y + 1) n then record { x = x; y = y + 1; way = North }
    else record { x = x; y = y + 1; way = West }
next_from n x y West =
    if nat_lt y n then record { x = x - 1; y = y; way = North }
    else if nat_lt 1 x then record { x = x - 1; y = y; way = West }
    else record { x = x - 1; y = y; way = South }
next_from n x y South =
    if nat_lt 0 x then record { x = x; y = y - 1; way = West }
    else if nat_lt 1 y then record { x = x; y = y - 1; way = South }
    else record { x = x; y = y - 1; way = East }

-- the same of a dart
abbrev pub next_by_cases : ℕ → Arrow → Arrow
next_by_cases n a = next_from n a.x a.y a.way

-- the x of the cell to the right of a dart, counted from 1 for the cell at the corner (0, 0), so that 0 and n + 1 are outside
abbrev pub beside_x : Way → ℕ → ℕ
beside_x East x = x + 1
beside_x North x = x + 1
beside_x West x = x
beside_x South x = x

-- the same of a dart
abbrev pub right_x : Arrow → ℕ
right_x a = beside_x a.way a.x

-- the y of that cell
abbrev pub beside_y : Way → ℕ → ℕ
beside_y East y = y
beside_y North y = y + 1
beside_y West y = y + 1
beside_y South y = y

-- the same of a dart
abbrev pub right_y : Arrow → ℕ
right_y a = beside_y a.way a.y
