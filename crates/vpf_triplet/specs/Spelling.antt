-- How triplet ids are spelled (MIL-STD-2407, 5.4, triplet id field type), apart from reading.
use Rattle.std.specs.Prelude.{◌≡◌, ℕ, ◌+◌, ◌*◌, ◌<◌, ◌^◌, List, [], ◌∷◌, ◌++◌, Option, Some, None}
use Rattle.std.specs.Int.{w16, w32}
use Rattle.vpf_base.specs.declared.orders.Order.{Order}
use Rattle.vpf_triplet.specs.declared.sizes.Size.{Size}
use Rattle.vpf_triplet.specs.declared.sizes.Size.TheVariants.{Absent, One, Two, Four}
use Rattle.vpf_triplet.specs.declared.triplets.Triplet.{Triplet}
use Rattle.vpf_base.specs.Numbers.{number}

-- the two bits of a size in the type byte
abbrev pub bits_of : Size → ℕ
bits_of Absent = 0
bits_of One = 1
bits_of Two = 2
bits_of Four = 3

-- a part has a spelling of this size
abbrev pub HoldsPart : Size → Option ℕ → Type 0
HoldsPart Absent None = Unit {0}
HoldsPart Absent (Some n) = ⊥
HoldsPart One None = ⊥
HoldsPart One (Some n) = n < 2 ^ 8
HoldsPart Two None = ⊥
HoldsPart Two (Some n) = n < 2 ^ 16
HoldsPart Four None = ⊥
HoldsPart Four (Some n) = n < 2 ^ 31

-- the spelling of a part in this size
abbrev pub part : Order → Size → Option ℕ → List ℕ
part o s None = []
part o Absent (Some n) = []
part o One (Some n) = n ∷ []
part o Two (Some n) = number o w16 n
part o Four (Some n) = number o w32 n

-- the type byte of parts of these sizes; its lowest field is reserved, and 0
abbrev pub type_byte : Size → Size → Size → ℕ
type_byte a b c = 64 * bits_of a + 16 * bits_of b + 4 * bits_of c

-- the type byte, and the parts in these sizes
abbrev pub spelling : Order → Size → Size → Size → Triplet → List ℕ
spelling o a b c t = type_byte a b c ∷ (part o a t.id ++ (part o b t.tile ++ part o c t.ext))

-- The bytes spell the triplet id: one spelling for each choice of sizes that hold its parts.
pub record IsTriplet (o : Order) (t : Triplet) (bytes : List ℕ) : Type 0 where
  pub id : Size
  pub tile : Size
  pub ext : Size
  pub holds_id : HoldsPart id t.id
  pub holds_tile : HoldsPart tile t.tile
  pub holds_ext : HoldsPart ext t.ext
  pub spelled : bytes ≡ spelling o id tile ext t
