-- The values that fit a field are those that some bytes spell there.
use Rattle.std.specs.Prelude.{IsTrue, ◌↔◌}
use Rattle.std.specs.Int.{Width, w16, w32, w64, cast_unsigned}
use Rattle.std.proofs.Common.{◌≡◌, ℕ, ◌*◌, List, [], ◌++◌, length, Option, Some, None, refl, ap, ◌∙◌, arith}
use Rattle.std.proofs.lemmas.Bool.{ltb-true, lt-ltb}
use Rattle.vpf_base.specs.declared.orders.Order.{Order}
use Rattle.vpf_base.specs.declared.orders.Order.TheVariants.{Little}
use Rattle.vpf_triplet.specs.declared.kinds.Kind.{Kind}
use Rattle.vpf_triplet.specs.declared.kinds.Kind.TheVariants as kinds
use Rattle.vpf_triplet.specs.declared.kinds.Count.{Count}
use Rattle.vpf_triplet.specs.declared.kinds.Count.TheVariants.{Fixed, Star}
use Rattle.vpf_triplet.specs.declared.sizes.Size.{Size}
use Rattle.vpf_triplet.specs.declared.sizes.Size.TheVariants.{Absent, One, Two, Four as FourBytes}
use Rattle.vpf_base.specs.Numbers.{number}
use Rattle.vpf_triplet.specs.Reading.{is_small}
use Rattle.vpf_triplet.specs.Spelling.{HoldsPart as HoldsPart, spelling}
use Rattle.vpf_value.specs.declared.coords.WordWidth.{WordWidth}
use Rattle.vpf_value.specs.declared.coords.WordWidth.TheVariants.{Four, Eight}
use Rattle.vpf_value.specs.declared.coords.Tuple.{Tuple}
use Rattle.vpf_value.specs.declared.coords.Tuple.TheVariants.{Pair, Triple}
use Rattle.vpf_value.specs.Words.{tuple_len, spelled_words}
use Rattle.vpf_value.specs.Values.{Value, TextOf, Word4Of, Word8Of, NumberOf, DateOf, Nothing, TripletOf, WordsOf}
use Rattle.vpf_value.specs.Spelling.{IsTextOf, IsWord4, IsWord8, IsSigned, IsDate, IsNothing, IsId, IsTuples, IsMany, IsCell}
use Rattle.vpf_value.specs.Inner.Fitting.{FitsText, FitsWord4, FitsWord8, FitsNumber, FitsDate, FitsNothing, FitsId, FitsTuples, FitsKind, FitsCell, HasSpelling}

-- some bytes spell the value
abbrev Spelled : (Value → List ℕ → Type 0) → Value → Type 0
Spelled Is v = (bytes : List ℕ) × Is v bytes

-- ---- what fits is spelled

text_spelled : (o : Order) (count : Count) (v : Value) → FitsText count v → Spelled (IsMany o IsTextOf count) v
text_spelled o (Fixed n) (TextOf text) h = (text, (refl, h))
text_spelled o Star (TextOf text) h = (number o w32 (length text) ++ text, record { count = length text; rest = text; small = h; parts = refl; spelled = (refl, refl) })
text_spelled o c v h = absurd h

word4_spelled : (o : Order) (v : Value) → FitsWord4 v → Spelled (IsWord4 o) v
word4_spelled o (Word4Of word) h = (number o w32 word, record { word = word; small = h; is = refl; spelled = refl })
word4_spelled o v h = absurd h

word8_spelled : (o : Order) (v : Value) → FitsWord8 v → Spelled (IsWord8 o) v
word8_spelled o (Word8Of word) h = (number o w64 word, record { word = word; small = h; is = refl; spelled = refl })
word8_spelled o v h = absurd h

number_spelled : (o : Order) (w : Width) (v : Value) → FitsNumber w v → Spelled (IsSigned o w) v
number_spelled o w (NumberOf z) h = (number o w (cast_unsigned w z), record { value = z; in_range = h; is = refl; spelled = refl })
number_spelled o w v h = absurd h

date_spelled : (v : Value) → FitsDate v → Spelled IsDate v
date_spelled (DateOf text) h = (text, (refl, h))
date_spelled v h = absurd h

nothing_spelled : (v : Value) → FitsNothing v → Spelled IsNothing v
nothing_spelled Nothing h = ([], (refl, refl))
nothing_spelled v h = absurd h

-- a size that holds each part below 2^31
wide_size : Option ℕ → Size
wide_size None = Absent
wide_size (Some n) = FourBytes

wide_size_holds : (part : Option ℕ) → IsTrue (is_small part) → HoldsPart (wide_size part) part
unfolding wide_size
wide_size_holds None h = tt
wide_size_holds (Some n) h = ltb-true n 0x8000_0000 h

id_spelled : (o : Order) (v : Value) → FitsId v → Spelled (IsId o) v
id_spelled o (TripletOf t) h =
    let text = spelling o (wide_size t.id) (wide_size t.tile) (wide_size t.ext) t in (
      text,
      record {
        triplet = t;
        is = refl;
        spelled = record {
          id = wide_size t.id;
          tile = wide_size t.tile;
          ext = wide_size t.ext;
          holds_id = wide_size_holds t.id h.0;
          holds_tile = wide_size_holds t.tile h.1;
          holds_ext = wide_size_holds t.ext h.2;
          spelled = refl;
        };
      },
    )
id_spelled o v h = absurd h

tuples_spelled : (o : Order) (width : WordWidth) (tuple : Tuple) (count : Count) (v : Value) → FitsTuples width tuple count v → Spelled (IsMany o (IsTuples o width tuple) count) v
tuples_spelled o width tuple (Fixed n) (WordsOf w words) h =
    let is : WordsOf w words ≡ WordsOf width words = ap (λ (x : WordWidth). WordsOf x words) h.0 in
    (spelled_words o width words, record { words = words; many = h.1.whole ∙ ap (λ (k : ℕ). tuple_len tuple * k) h.1.held; small = h.2; is = is; spelled = refl })
tuples_spelled o width tuple Star (WordsOf w words) h =
    let is : WordsOf w words ≡ WordsOf width words = ap (λ (x : WordWidth). WordsOf x words) h.0 in (
      number o w32 h.1.tuples ++ spelled_words o width words,
      record {
        count = h.1.tuples;
        rest = spelled_words o width words;
        small = h.1.held;
        parts = refl;
        spelled = record { words = words; many = h.1.whole; small = h.2; is = is; spelled = refl };
      },
    )
tuples_spelled o width tuple c v h = absurd h

kind_spelled : (o : Order) (kind : Kind) (count : Count) (v : Value) → FitsKind kind count v → Spelled (IsCell o kind count) v
kind_spelled o kinds.T c v h = text_spelled o c v h
kind_spelled o kinds.L c v h = text_spelled o c v h
kind_spelled o kinds.M c v h = text_spelled o c v h
kind_spelled o kinds.N c v h = text_spelled o c v h
kind_spelled o kinds.F c v h = word4_spelled o v h
kind_spelled o kinds.R c v h = word8_spelled o v h
kind_spelled o kinds.S c v h = number_spelled o w16 v h
kind_spelled o kinds.I c v h = number_spelled o w32 v h
kind_spelled o kinds.D c v h = date_spelled v h
kind_spelled o kinds.X c v h = nothing_spelled v h
kind_spelled o kinds.K c v h = id_spelled o v h
kind_spelled o kinds.C c v h = tuples_spelled o Four Pair c v h
kind_spelled o kinds.B c v h = tuples_spelled o Eight Pair c v h
kind_spelled o kinds.Z c v h = tuples_spelled o Four Triple c v h
kind_spelled o kinds.Y c v h = tuples_spelled o Eight Triple c v h

-- ---- what is spelled fits

text_fits : (o : Order) (count : Count) (v : Value) (bytes : List ℕ) → IsMany o IsTextOf count v bytes → FitsText count v
text_fits o (Fixed n) v bytes h = rw (h.0) h.1
text_fits o Star v bytes h = rw (h.spelled.0) (omega (arith, h.spelled.1, h.small))

part_is_small : (s : Size) (part : Option ℕ) → HoldsPart s part → IsTrue (is_small part)
part_is_small s None h = refl
part_is_small Absent (Some n) h = absurd h
part_is_small One (Some n) h = lt-ltb n 0x8000_0000 (omega arith)
part_is_small Two (Some n) h = lt-ltb n 0x8000_0000 (omega arith)
part_is_small FourBytes (Some n) h = lt-ltb n 0x8000_0000 h

tuples_fit : (o : Order) (width : WordWidth) (tuple : Tuple) (count : Count) (v : Value) (bytes : List ℕ) → IsMany o (IsTuples o width tuple) count v bytes → FitsTuples width tuple count v
tuples_fit o width tuple (Fixed n) v bytes h = rw (h.is) (refl, record { tuples = n; whole = h.many; held = refl }, h.small)
tuples_fit o width tuple Star v bytes h = rw (h.spelled.is) (refl, record { tuples = h.count; whole = h.spelled.many; held = h.small }, h.spelled.small)

pub kind_fits : (o : Order) (kind : Kind) (count : Count) (v : Value) (bytes : List ℕ) → IsCell o kind count v bytes → FitsKind kind count v
kind_fits o kinds.T c v bytes h = text_fits o c v bytes h
kind_fits o kinds.L c v bytes h = text_fits o c v bytes h
kind_fits o kinds.M c v bytes h = text_fits o c v bytes h
kind_fits o kinds.N c v bytes h = text_fits o c v bytes h
kind_fits o kinds.F c v bytes h = rw (h.is) h.small
kind_fits o kinds.R c v bytes h = rw (h.is) h.small
kind_fits o kinds.S c v bytes h = rw (h.is) h.in_range
kind_fits o kinds.I c v bytes h = rw (h.is) h.in_range
kind_fits o kinds.D c v bytes h = rw (h.0) h.1
kind_fits o kinds.X c v bytes h = rw (h.0) tt
kind_fits o kinds.K c v bytes h =
    let t = h.spelled in
    rw (h.is) (part_is_small t.id h.triplet.id t.holds_id, part_is_small t.tile h.triplet.tile t.holds_tile, part_is_small t.ext h.triplet.ext t.holds_ext)
kind_fits o kinds.C c v bytes h = tuples_fit o Four Pair c v bytes h
kind_fits o kinds.B c v bytes h = tuples_fit o Eight Pair c v bytes h
kind_fits o kinds.Z c v bytes h = tuples_fit o Four Triple c v bytes h
kind_fits o kinds.Y c v bytes h = tuples_fit o Eight Triple c v bytes h

-- ---- both ways

pub fitting_spelled : (kind : Kind) (count : Count) (v : Value) → FitsCell kind count v ↔ HasSpelling kind count v
fitting_spelled kind count v =
    (λ h. (h.0, λ o. kind_spelled o kind count v h.1), λ h. let b = h.1 Little in (h.0, kind_fits Little kind count v b.0 b.1))
