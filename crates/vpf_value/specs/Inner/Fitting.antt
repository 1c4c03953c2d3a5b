-- Which cells have a spelling of a kind and count.
use Rattle.std.specs.Prelude.{◌≡◌, ℕ, ◌*◌, ◌<◌, ◌^◌, List, length, IsTrue, All, FitsSigned}
use Rattle.std.specs.Int.{Width, w16, w32}
use Rattle.vpf_base.specs.declared.orders.Order.{Order}
use Rattle.vpf_triplet.specs.declared.kinds.Kind.{Kind}
use Rattle.vpf_triplet.specs.declared.kinds.Kind.TheVariants as kinds
use Rattle.vpf_triplet.specs.declared.kinds.Count.{Count}
use Rattle.vpf_triplet.specs.declared.kinds.Count.TheVariants.{Fixed, Star}
use Rattle.vpf_triplet.specs.Kinds.{allows}
use Rattle.vpf_triplet.specs.Reading.{is_small}
use Rattle.vpf_value.specs.declared.coords.WordWidth.{WordWidth}
use Rattle.vpf_value.specs.declared.coords.WordWidth.TheVariants.{Four, Eight}
use Rattle.vpf_value.specs.declared.coords.Tuple.{Tuple}
use Rattle.vpf_value.specs.declared.coords.Tuple.TheVariants.{Pair, Triple}
use Rattle.vpf_value.specs.Words.{word_limit, tuple_len}
use Rattle.vpf_value.specs.Values.{Value, TextOf, Word4Of, Word8Of, NumberOf, DateOf, Nothing, TripletOf, WordsOf, date_bytes}
use Rattle.vpf_value.specs.Spelling.{IsCell}

-- a field of this count may hold `n` values: so many as it says, or as many as a count of 4 bytes can say
abbrev pub HoldsMany : Count → ℕ → Type 0
HoldsMany (Fixed m) n = n ≡ m
HoldsMany Star n = n < 2 ^ 32

-- so many words make tuples, and the field may hold as many
pub record HoldsTuples (tuple : Tuple) (count : Count) (words : ℕ) : Type 0 where
  pub tuples : ℕ
  pub whole : words ≡ tuple_len tuple * tuples
  pub held : HoldsMany count tuples

-- a text of as many bytes as the field may hold
abbrev pub FitsText : Count → Value → Type 0
FitsText count (TextOf text) = HoldsMany count (length text)
FitsText count v = ⊥

-- a word of 4 bytes
abbrev pub FitsWord4 : Value → Type 0
FitsWord4 (Word4Of word) = word < 2 ^ 32
FitsWord4 v = ⊥

-- a word of 8 bytes
abbrev pub FitsWord8 : Value → Type 0
FitsWord8 (Word8Of word) = word < 2 ^ 64
FitsWord8 v = ⊥

-- a signed number that this width has
abbrev pub FitsNumber : Width → Value → Type 0
FitsNumber w (NumberOf number) = FitsSigned w number
FitsNumber w v = ⊥

-- the bytes of a date
abbrev pub FitsDate : Value → Type 0
FitsDate (DateOf text) = length text ≡ date_bytes
FitsDate v = ⊥

-- nothing
abbrev pub FitsNothing : Value → Type 0
FitsNothing Nothing = Unit {0}
FitsNothing v = ⊥

-- a triplet id whose parts are below 2^31
abbrev pub FitsId : Value → Type 0
FitsId (TripletOf t) = IsTrue (is_small t.id) × IsTrue (is_small t.tile) × IsTrue (is_small t.ext)
FitsId v = ⊥

-- words of this width, in as many tuples as the field may hold
abbrev pub FitsTuples : WordWidth → Tuple → Count → Value → Type 0
FitsTuples width tuple count (WordsOf w words) = (w ≡ width) × HoldsTuples tuple count (length words) × All (λ word. word < word_limit width) words
FitsTuples width tuple count v = ⊥

-- the value is one of this kind, and there are as many as the count says
abbrev pub FitsKind : Kind → Count → Value → Type 0
FitsKind kinds.T count v = FitsText count v
FitsKind kinds.L count v = FitsText count v
FitsKind kinds.M count v = FitsText count v
FitsKind kinds.N count v = FitsText count v
FitsKind kinds.F count v = FitsWord4 v
FitsKind kinds.R count v = FitsWord8 v
FitsKind kinds.S count v = FitsNumber w16 v
FitsKind kinds.I count v = FitsNumber w32 v
FitsKind kinds.D count v = FitsDate v
FitsKind kinds.X count v = FitsNothing v
FitsKind kinds.K count v = FitsId v
FitsKind kinds.C count v = FitsTuples Four Pair count v
FitsKind kinds.B count v = FitsTuples Eight Pair count v
FitsKind kinds.Z count v = FitsTuples Four Triple count v
FitsKind kinds.Y count v = FitsTuples Eight Triple count v

-- the value fits a field of this kind and count, which is one that the kind allows
abbrev pub FitsCell : Kind → Count → Value → Type 0
FitsCell kind count v = IsTrue (allows kind count) × FitsKind kind count v

-- the kind allows the count, and in each order some bytes spell the value
abbrev pub HasSpelling : Kind → Count → Value → Type 0
HasSpelling kind count v = IsTrue (allows kind count) × ((o : Order) → (bytes : List ℕ) × IsCell o kind count v bytes)
