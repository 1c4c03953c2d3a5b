-- Reading a triplet id from the front of bytes, with the code of the first fault.
use Rattle.std.specs.Prelude.{ℕ, ◌+◌, ◌/◌, ◌%◌, List, [], ◌∷◌, length, drop, Option, Some, None, Result, Ok, Err, Bool, true, nat_lt, ◌==◌, ◌&&◌, if◌then◌else◌}
use Rattle.vpf_base.specs.declared.orders.Order.{Order}
use Rattle.vpf_triplet.specs.declared.places.Code.{Code}
use Rattle.vpf_triplet.specs.declared.places.Code.TheVariants as codes
use Rattle.vpf_triplet.specs.declared.triplets.Triplet.{Triplet}
use Rattle.vpf_triplet.specs.declared.sizes.Size.{Size}
use Rattle.vpf_triplet.specs.Sizes.{size_of, size_bytes, part_of}

-- a part is absent or below 2^31
abbrev pub is_small : Option ℕ → Bool
is_small None = true
is_small (Some n) = nat_lt n 0x8000_0000

-- the parts of these sizes, which follow the type byte
unfoldable pub parts_at : Order → Size → Size → Size → List ℕ → Result (Triplet × ℕ) Code
parts_at o a b c rest =
    let id = part_of o a rest in
    let tile = part_of o b (drop (size_bytes a) rest) in
    let ext = part_of o c (drop (size_bytes a + size_bytes b) rest) in
    if nat_lt (length rest) (size_bytes a + size_bytes b + size_bytes c) then Err codes.CellCut
    else if is_small id && is_small tile && is_small ext then Ok (record { id = id; tile = tile; ext = ext }, 1 + (size_bytes a + size_bytes b + size_bytes c))
    else Err codes.Triplet

-- The triplet id at the front, and how many bytes it takes. The type byte has four fields of two bits, the highest
-- first: the sizes of the id, the tile and the external id, and a reserved field, which is 0.
unfoldable pub triplet_at : Order → List ℕ → Result (Triplet × ℕ) Code
triplet_at o [] = Err codes.CellCut
triplet_at o (first ∷ rest) =
    if first % 4 == 0 then parts_at o (size_of (first / 64)) (size_of (first / 16 % 4)) (size_of (first / 4 % 4)) rest
    else Err codes.Triplet
