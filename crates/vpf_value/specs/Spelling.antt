-- How cells are spelled (MIL-STD-2407, 5.4, allowable field types), apart from reading.
use Rattle.std.specs.Prelude.{◌≡◌, ℕ, ◌*◌, ◌<◌, ◌^◌, ℤ, List, [], ◌++◌, length, All, FitsSigned}
use Rattle.std.specs.Int.{Width, w16, w32, w64, cast_unsigned}
use Rattle.vpf_base.specs.declared.orders.Order.{Order}
use Rattle.vpf_triplet.specs.declared.kinds.Kind.{Kind}
use Rattle.vpf_triplet.specs.declared.kinds.Kind.TheVariants as kinds
use Rattle.vpf_triplet.specs.declared.kinds.Count.{Count}
use Rattle.vpf_triplet.specs.declared.kinds.Count.TheVariants.{Fixed, Star}
use Rattle.vpf_triplet.specs.declared.triplets.Triplet.{Triplet}
use Rattle.vpf_base.specs.Numbers.{number}
use Rattle.vpf_triplet.specs.Spelling.{IsTriplet}
use Rattle.vpf_value.specs.declared.coords.WordWidth.{WordWidth}
use Rattle.vpf_value.specs.declared.coords.WordWidth.TheVariants.{Four, Eight}
use Rattle.vpf_value.specs.declared.coords.Tuple.{Tuple}
use Rattle.vpf_value.specs.declared.coords.Tuple.TheVariants.{Pair, Triple}
use Rattle.vpf_value.specs.Words.{tuple_len, word_limit, spelled_words}
use Rattle.vpf_value.specs.Values.{Value, TextOf, Word4Of, Word8Of, NumberOf, DateOf, Nothing, TripletOf, WordsOf, date_bytes}

-- a text of `n` bytes, as they are
abbrev pub IsTextOf : ℕ → Value → List ℕ → Type 0
IsTextOf n v bytes = (v ≡ TextOf bytes) × (length bytes ≡ n)

-- a word of 4 bytes
pub record IsWord4 (o : Order) (v : Value) (bytes : List ℕ) : Type 0 where
  pub word : ℕ
  pub small : word < 2 ^ 32
  pub is : v ≡ Word4Of word
  pub spelled : bytes ≡ number o w32 word

-- a word of 8 bytes
pub record IsWord8 (o : Order) (v : Value) (bytes : List ℕ) : Type 0 where
  pub word : ℕ
  pub small : word < 2 ^ 64
  pub is : v ≡ Word8Of word
  pub spelled : bytes ≡ number o w64 word

-- a signed number of this width, in two's complement
pub record IsSigned (o : Order) (w : Width) (v : Value) (bytes : List ℕ) : Type 0 where
  pub value : ℤ
  pub in_range : FitsSigned w value
  pub is : v ≡ NumberOf value
  pub spelled : bytes ≡ number o w (cast_unsigned w value)

-- the bytes of a date, as they are
abbrev pub IsDate : Value → List ℕ → Type 0
IsDate v bytes = (v ≡ DateOf bytes) × (length bytes ≡ date_bytes)

-- no bytes
abbrev pub IsNothing : Value → List ℕ → Type 0
IsNothing v bytes = (v ≡ Nothing) × (bytes ≡ [])

-- a triplet id
pub record IsId (o : Order) (v : Value) (bytes : List ℕ) : Type 0 where
  pub triplet : Triplet
  pub is : v ≡ TripletOf triplet
  pub spelled : IsTriplet o triplet bytes

-- `n` tuples of words
pub record IsTuples (o : Order) (width : WordWidth) (tuple : Tuple) (n : ℕ) (v : Value) (bytes : List ℕ) : Type 0 where
  pub words : List ℕ
  pub many : length words ≡ tuple_len tuple * n
  pub small : All (λ word. word < word_limit width) words
  pub is : v ≡ WordsOf width words
  pub spelled : bytes ≡ spelled_words o width words

-- a count of 4 bytes, and then what is spelled for that count
pub record IsCountedCell (o : Order) (IsRest : ℕ → Value → List ℕ → Type 0) (v : Value) (bytes : List ℕ) : Type 0 where
  pub count : ℕ
  pub rest : List ℕ
  pub small : count < 2 ^ 32
  pub parts : bytes ≡ number o w32 count ++ rest
  pub spelled : IsRest count v rest

-- as many values as a count says, which stands in the header or in the cell before them
abbrev pub IsMany : Order → (ℕ → Value → List ℕ → Type 0) → Count → Value → List ℕ → Type 0
IsMany o IsValue (Fixed n) v bytes = IsValue n v bytes
IsMany o IsValue Star v bytes = IsCountedCell o IsValue v bytes

-- The bytes spell the value in a cell of this kind and count.
abbrev pub IsCell : Order → Kind → Count → Value → List ℕ → Type 0
IsCell o kinds.T count v bytes = IsMany o IsTextOf count v bytes
IsCell o kinds.L count v bytes = IsMany o IsTextOf count v bytes
IsCell o kinds.M count v bytes = IsMany o IsTextOf count v bytes
IsCell o kinds.N count v bytes = IsMany o IsTextOf count v bytes
IsCell o kinds.F count v bytes = IsWord4 o v bytes
IsCell o kinds.R count v bytes = IsWord8 o v bytes
IsCell o kinds.S count v bytes = IsSigned o w16 v bytes
IsCell o kinds.I count v bytes = IsSigned o w32 v bytes
IsCell o kinds.D count v bytes = IsDate v bytes
IsCell o kinds.X count v bytes = IsNothing v bytes
IsCell o kinds.K count v bytes = IsId o v bytes
IsCell o kinds.C count v bytes = IsMany o (IsTuples o Four Pair) count v bytes
IsCell o kinds.B count v bytes = IsMany o (IsTuples o Eight Pair) count v bytes
IsCell o kinds.Z count v bytes = IsMany o (IsTuples o Four Triple) count v bytes
IsCell o kinds.Y count v bytes = IsMany o (IsTuples o Eight Triple) count v bytes
