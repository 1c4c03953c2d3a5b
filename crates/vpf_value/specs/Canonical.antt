-- The canonical spelling of a value in a field (MIL-STD-2407, 5.4, allowable field types): no spelling is shorter.
use Rattle.std.specs.Prelude.{ℕ, ◌/◌, List, [], ◌++◌, length}
use Rattle.std.specs.Int.{Width, w16, w32, w64, cast_unsigned}
use Rattle.vpf_base.specs.declared.orders.Order.{Order}
use Rattle.vpf_triplet.specs.declared.kinds.Kind.{Kind}
use Rattle.vpf_triplet.specs.declared.kinds.Kind.TheVariants as kinds
use Rattle.vpf_triplet.specs.declared.kinds.Count.{Count}
use Rattle.vpf_triplet.specs.declared.kinds.Count.TheVariants.{Fixed, Star}
use Rattle.vpf_base.specs.Numbers.{number}
use Rattle.vpf_triplet.specs.Canonical.{canonical}
use Rattle.vpf_value.specs.declared.coords.Tuple.{Tuple}
use Rattle.vpf_value.specs.declared.coords.Tuple.TheVariants.{Pair, Triple}
use Rattle.vpf_value.specs.Words.{tuple_len, spelled_words}
use Rattle.vpf_value.specs.Values.{Value, TextOf, Word4Of, Word8Of, NumberOf, DateOf, TripletOf, WordsOf}

-- so many values, with a count of 4 bytes before them where the header does not say how many
abbrev pub with_count : Order → Count → ℕ → List ℕ → List ℕ
with_count o (Fixed n) many bytes = bytes
with_count o Star many bytes = number o w32 many ++ bytes

-- a text as it is
abbrev pub spelled_text : Order → Count → Value → List ℕ
spelled_text o count (TextOf text) = with_count o count (length text) text
spelled_text o count v = []

-- a word of 4 bytes
abbrev pub spelled_word4 : Order → Value → List ℕ
spelled_word4 o (Word4Of word) = number o w32 word
spelled_word4 o v = []

-- a word of 8 bytes
abbrev pub spelled_word8 : Order → Value → List ℕ
spelled_word8 o (Word8Of word) = number o w64 word
spelled_word8 o v = []

-- a signed number of this width, in two's complement
abbrev pub spelled_number : Order → Width → Value → List ℕ
spelled_number o w (NumberOf value) = number o w (cast_unsigned w value)
spelled_number o w v = []

-- the bytes of a date, as they are
abbrev pub spelled_date : Value → List ℕ
spelled_date (DateOf text) = text
spelled_date v = []

-- a triplet id, each part in the least size that holds it
abbrev pub spelled_id : Order → Value → List ℕ
spelled_id o (TripletOf t) = canonical o t
spelled_id o v = []

-- tuples of words, one word after another
abbrev pub spelled_tuples : Order → Tuple → Count → Value → List ℕ
spelled_tuples o tuple count (WordsOf w words) = with_count o count (length words / tuple_len tuple) (spelled_words o w words)
spelled_tuples o tuple count v = []

-- The canonical spelling of a value in a field of this kind and count; of a value that does not fit there, no matter what.
abbrev pub spelled : Order → Kind → Count → Value → List ℕ
spelled o kinds.T count v = spelled_text o count v
spelled o kinds.L count v = spelled_text o count v
spelled o kinds.M count v = spelled_text o count v
spelled o kinds.N count v = spelled_text o count v
spelled o kinds.F count v = spelled_word4 o v
spelled o kinds.R count v = spelled_word8 o v
spelled o kinds.S count v = spelled_number o w16 v
spelled o kinds.I count v = spelled_number o w32 v
spelled o kinds.D count v = spelled_date v
spelled o kinds.X count v = []
spelled o kinds.K count v = spelled_id o v
spelled o kinds.C count v = spelled_tuples o Pair count v
spelled o kinds.B count v = spelled_tuples o Pair count v
spelled o kinds.Z count v = spelled_tuples o Triple count v
spelled o kinds.Y count v = spelled_tuples o Triple count v
