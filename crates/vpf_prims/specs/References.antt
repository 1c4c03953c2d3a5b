-- What cells refer to: rows of a table by their numbers, and maybe on into another tile (MIL-STD-2407, 5.4, triplet id).
use Rattle.std.specs.Prelude.{ℕ, ℤ, pos, negsuc, Bool, false, not, Option, Some, None, is_some, slice_index_or, ◌==◌, ◌&&◌, ◌||◌, nat_le}
use Rattle.std.specs.Option.{unwrap_or}
use Rattle.vpf_triplet.specs.declared.triplets.Triplet.{Triplet}
use Rattle.vpf_value.specs.Values.{Value, NumberOf, TripletOf, Nothing}
use Rattle.vpf_table.specs.Grid.{Row}

-- a reference within the tile
abbrev pub plain : ℕ → Triplet
plain n = record { id = Some n; tile = None; ext = None }

-- no reference
abbrev pub no_reference : Triplet
no_reference = record { id = None; tile = None; ext = None }

-- a reference stays within its tile
abbrev pub stays : Triplet → Bool
stays r = not (is_some r.tile || is_some r.ext)

-- a cell as a reference: a triplet id, or a number as the id alone; a negative number is an absent id
abbrev pub reference_in : Value → Triplet
reference_in (NumberOf (pos n)) = plain n
reference_in (NumberOf (negsuc n)) = no_reference
reference_in (TripletOf t) = t
reference_in v = no_reference

-- a cell as a signed number, 0 where it holds none
abbrev pub signed_in : Value → ℤ
signed_in (NumberOf z) = z
signed_in v = pos 0

-- the number that a reference has in its own tile, 0 where it is absent
abbrev pub id_of : Triplet → ℕ
id_of t = unwrap_or t.id 0

-- a mark says that an edge is a line between tiles
abbrev pub is_line : Value → Bool
is_line (NumberOf (pos n)) = n == 1
is_line v = false

-- the cell at a place of a row; where no column is, there is nothing
abbrev pub cell_at : Row → Option ℕ → Value
cell_at row None = Nothing
cell_at row (Some c) = slice_index_or row c Nothing

-- a signed number is k
abbrev pub is_same : ℤ → ℕ → Bool
is_same (pos n) k = n == k
is_same (negsuc n) k = false

-- there is a number, from low to last
abbrev pub is_from : ℕ → ℕ → Option ℕ → Bool
is_from low last None = false
is_from low last (Some n) = nat_le low n && nat_le n last
