-- Why no triplet id is at the front of bytes, apart from reading (MIL-STD-2407, 5.4, triplet id field type).
use Rattle.std.specs.Prelude.{◌≢◌, ℕ, ◌+◌, ◌%◌, ◌<◌, ◌≤◌, ◌^◌, List, [], ◌∷◌, length, drop}
use Rattle.std.specs.Int.{w32}
use Rattle.vpf_base.specs.declared.orders.Order.{Order}
use Rattle.vpf_triplet.specs.declared.places.Code.{Code}
use Rattle.vpf_triplet.specs.declared.places.Code.TheVariants as codes
use Rattle.vpf_triplet.specs.declared.sizes.Size.{Size}
use Rattle.vpf_triplet.specs.declared.sizes.Size.TheVariants.{Absent, One, Two, Four}
use Rattle.vpf_base.specs.Numbers.{number_of}
use Rattle.vpf_triplet.specs.Sizes.{size_bytes}
use Rattle.vpf_triplet.specs.Spelling.{type_byte}

-- the number at the front is too large for a part of this size; those of fewer bytes never are
abbrev pub IsLarge : Order → Size → List ℕ → Type 0
IsLarge o Absent bytes = ⊥
IsLarge o One bytes = ⊥
IsLarge o Two bytes = ⊥
IsLarge o Four bytes = 2 ^ 31 ≤ number_of o w32 bytes

-- how many bytes the parts of these sizes take
abbrev pub parts_bytes : Size → Size → Size → ℕ
parts_bytes a b c = size_bytes a + size_bytes b + size_bytes c

-- the first fault of the bytes
pub data FirstTripletFault (o : Order) : List ℕ → Code → Type 0 where
  -- there is no type byte
  no_type : FirstTripletFault o [] codes.CellCut
  -- its reserved field isn't 0
  reserved : (first : ℕ) (rest : List ℕ) → first % 4 ≢ 0 → FirstTripletFault o (first ∷ rest) codes.Triplet
  -- the parts aren't whole
  cut : (a b c : Size) (rest : List ℕ) → length rest < parts_bytes a b c → FirstTripletFault o (type_byte a b c ∷ rest) codes.CellCut
  -- one of them is too large
  large_id : (a b c : Size) (rest : List ℕ) → parts_bytes a b c ≤ length rest → IsLarge o a rest → FirstTripletFault o (type_byte a b c ∷ rest) codes.Triplet
  large_tile : (a b c : Size) (rest : List ℕ) → parts_bytes a b c ≤ length rest → IsLarge o b (drop (size_bytes a) rest) → FirstTripletFault o (type_byte a b c ∷ rest) codes.Triplet
  large_ext : (a b c : Size) (rest : List ℕ) → parts_bytes a b c ≤ length rest → IsLarge o c (drop (size_bytes a + size_bytes b) rest) → FirstTripletFault o (type_byte a b c ∷ rest) codes.Triplet
