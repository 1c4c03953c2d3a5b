-- The tiles that a plan names for the faces of a coverage (MIL-STD-2407, 5.2.3, tiled coverages).
use Rattle.std.specs.Prelude.{ℕ, ℤ, pos, negsuc, Bool, false, ◌&&◌, ◌==◌, nat_le, if◌then◌else◌, List, Option, None, Some}
use Rattle.vpf_prims.specs.Lists.{kth}

-- what the plan names for a face, as it stands there; none where it has no row for it
abbrev pub named_for : List (Option ℤ) → ℕ → Option ℤ
named_for named f = kth named f None

-- a number of the plan is that of one of so many tiles
abbrev pub is_tile : ℕ → ℤ → Bool
is_tile tiles (pos n) = nat_le 1 n && nat_le n tiles
is_tile tiles (negsuc n) = false

-- the number of the tile that is named, 0 for none
abbrev pub tile_number : Option ℤ → ℕ
tile_number None = 0
tile_number (Some (pos n)) = n
tile_number (Some (negsuc n)) = 0

-- the same for a face; the universe has no tile
abbrev pub planned_tile : ℕ → Option ℤ → ℕ
planned_tile f named = if f == 1 then 0 else tile_number named

-- the plan as a function of the faces: 0 for the universe, and for a face that is put into no tile
abbrev pub plan_of : List (Option ℤ) → ℕ → ℕ
plan_of named f = planned_tile f (named_for named f)
