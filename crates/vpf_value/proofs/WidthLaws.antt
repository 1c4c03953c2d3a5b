-- Cells of one width, and that other cells have bytes.
use Rattle.std.specs.Int.{w32, w16, cast_unsigned}
use Rattle.std.proofs.Common.{◌≡◌, ◌≢◌, ℕ, zero, suc, ◌*◌, ◌<◌, List, length, Option, Some, None, Err, refl, ap, ◌∙◌, arith}
use Rattle.std.proofs.lemmas.Bool.{lt-ltb}
use Rattle.std.proofs.lemmas.List.{length-append}
use Rattle.vpf_base.specs.declared.orders.Order.{Order}
use Rattle.vpf_triplet.specs.declared.kinds.Kind.{Kind}
use Rattle.vpf_triplet.specs.declared.kinds.Kind.TheVariants as kinds
use Rattle.vpf_triplet.specs.declared.kinds.Count.{Count}
use Rattle.vpf_triplet.specs.declared.kinds.Count.TheVariants.{Fixed, Star}
use Rattle.vpf_triplet.specs.declared.places.Code.TheVariants as codes
use Rattle.vpf_base.specs.Numbers.{number}
use Rattle.vpf_value.specs.declared.coords.WordWidth.{WordWidth}
use Rattle.vpf_value.specs.declared.coords.WordWidth.TheVariants.{Four, Eight}
use Rattle.vpf_value.specs.declared.coords.Tuple.{Tuple}
use Rattle.vpf_value.specs.declared.coords.Tuple.TheVariants.{Pair, Triple}
use Rattle.vpf_value.specs.Words.{word_bytes, tuple_len}
use Rattle.vpf_value.specs.Values.{Value}
use Rattle.vpf_value.specs.Reading.{sized, text_from, tuples_from, many_from, cell_from}
use Rattle.vpf_value.specs.Spelling.{IsTextOf, IsTuples, IsMany, IsCountedCell, IsCell}
use Rattle.vpf_value.specs.Widths.{cell_width, many_width, TakesWidth}
use Rattle.vpf_value.specs.Inner.NumberLaws.{length-number, length-number16}
use Rattle.vpf_value.proofs.WordTexts.{length-word_text}
use Rattle.vpf_value.proofs.Readers.{sized-enough}

-- ---- cells of one width

sized-short : (n : ℕ) (v : Value) (bytes : List ℕ) → length bytes < n → sized n v bytes ≡ Err codes.CellCut
unfolding sized
sized-short n v bytes h = rw (lt-ltb (length bytes) n h) refl

width_is : (n width : ℕ) → Some n ≡ Some width → width ≡ n
width_is n width e = cc

abbrev no_size : Option ℕ
no_size = None

no_width : {P : Type 0} (width : ℕ) → no_size ≡ Some width → P
no_width width e = absurd cc

sized_takes_width : (n : ℕ) (v : Value) (bytes : List ℕ) (width : ℕ) → width ≡ n → TakesWidth width bytes (sized n v bytes)
sized_takes_width n v bytes width e = rw e (record { cut = sized-short n v bytes; whole = λ h. (v, sized-enough n v bytes h) })

texts_take_width : (o : Order) (count : Count) (bytes : List ℕ) (width : ℕ) → many_width 1 count ≡ Some width → TakesWidth width bytes (many_from o text_from count bytes)
texts_take_width o (Fixed n) bytes width e = sized_takes_width n _ bytes width (width_is (1 * n) width e ∙ omega arith)
texts_take_width o Star bytes width e = no_width width e

tuples_take_width : (o : Order) (w : WordWidth) (tuple : Tuple) (size : ℕ) → size ≡ word_bytes w * tuple_len tuple → (count : Count) (bytes : List ℕ) (width : ℕ) → many_width size count ≡ Some width → TakesWidth width bytes (many_from o (tuples_from o w tuple) count bytes)
tuples_take_width o w tuple size s (Fixed n) bytes width e = sized_takes_width (word_bytes w * (tuple_len tuple * n)) _ bytes width (width_is (size * n) width e ∙ rw s (omega arith))
tuples_take_width o w tuple size s Star bytes width e = no_width width e

pub fixed_cell : (o : Order) (kind : Kind) (count : Count) (bytes : List ℕ) (width : ℕ) → cell_width kind count ≡ Some width → TakesWidth width bytes (cell_from o kind count bytes)
fixed_cell o kinds.T c bytes width e = texts_take_width o c bytes width e
fixed_cell o kinds.L c bytes width e = texts_take_width o c bytes width e
fixed_cell o kinds.M c bytes width e = texts_take_width o c bytes width e
fixed_cell o kinds.N c bytes width e = texts_take_width o c bytes width e
fixed_cell o kinds.F c bytes width e = sized_takes_width 4 _ bytes width (width_is 4 width e)
fixed_cell o kinds.R c bytes width e = sized_takes_width 8 _ bytes width (width_is 8 width e)
fixed_cell o kinds.S c bytes width e = sized_takes_width 2 _ bytes width (width_is 2 width e)
fixed_cell o kinds.I c bytes width e = sized_takes_width 4 _ bytes width (width_is 4 width e)
fixed_cell o kinds.D c bytes width e = sized_takes_width 20 _ bytes width (width_is 20 width e)
fixed_cell o kinds.X c bytes width e = rw (width_is 0 width e) (record { cut = λ h. absurd (omega arith); whole = λ h. (_, refl) })
fixed_cell o kinds.K c bytes width e = no_width width e
fixed_cell o kinds.C c bytes width e = tuples_take_width o Four Pair 8 refl c bytes width e
fixed_cell o kinds.B c bytes width e = tuples_take_width o Eight Pair 16 refl c bytes width e
fixed_cell o kinds.Z c bytes width e = tuples_take_width o Four Triple 12 refl c bytes width e
fixed_cell o kinds.Y c bytes width e = tuples_take_width o Eight Triple 24 refl c bytes width e

-- ---- cells with bytes

not_zero : (n : ℕ) → Fixed n ≢ Fixed 0 → 0 < n
not_zero zero h = absurd (h refl)
not_zero (suc n) h = omega arith

counted_has_room : (o : Order) (Is : ℕ → Value → List ℕ → Type 0) (v : Value) (text : List ℕ) → IsCountedCell o Is v text → 0 < length text
counted_has_room o Is v text h =
    omega (arith, ap length h.parts, length-append (number o w32 h.count) h.rest, length-number o Four h.count)

texts_have_room : (o : Order) (count : Count) (v : Value) (text : List ℕ) → count ≢ Fixed 0 → IsMany o IsTextOf count v text → 0 < length text
texts_have_room o (Fixed n) v text some h = omega (arith, not_zero n some, h.1)
texts_have_room o Star v text some h = counted_has_room o IsTextOf v text h

room_of : (w : WordWidth) (tuple : Tuple) (n : ℕ) → 0 < n → 0 < word_bytes w * (tuple_len tuple * n)
room_of Four Pair n h = omega arith
room_of Eight Pair n h = omega arith
room_of Four Triple n h = omega arith
room_of Eight Triple n h = omega arith

tuples_have_room : (o : Order) (w : WordWidth) (tuple : Tuple) (count : Count) (v : Value) (text : List ℕ) → count ≢ Fixed 0 → IsMany o (IsTuples o w tuple) count v text → 0 < length text
tuples_have_room o w tuple (Fixed n) v text some h =
    let long : length text ≡ word_bytes w * (tuple_len tuple * n) = ap length h.spelled ∙ length-word_text o w h.words ∙ ap (λ (k : ℕ). word_bytes w * k) h.many in
    rw long (room_of w tuple n (not_zero n some))
tuples_have_room o w tuple Star v text some h = counted_has_room o (IsTuples o w tuple) v text h

pub cell_has_room : (o : Order) (kind : Kind) (count : Count) (v : Value) (text : List ℕ) → kind ≢ kinds.X → count ≢ Fixed 0 → IsCell o kind count v text → 0 < length text
cell_has_room o kinds.T c v text other some h = texts_have_room o c v text some h
cell_has_room o kinds.L c v text other some h = texts_have_room o c v text some h
cell_has_room o kinds.M c v text other some h = texts_have_room o c v text some h
cell_has_room o kinds.N c v text other some h = texts_have_room o c v text some h
cell_has_room o kinds.F c v text other some h = omega (arith, ap length h.spelled, length-number o Four h.word)
cell_has_room o kinds.R c v text other some h = omega (arith, ap length h.spelled, length-number o Eight h.word)
cell_has_room o kinds.S c v text other some h = omega (arith, ap length h.spelled, length-number16 o (cast_unsigned w16 h.value))
cell_has_room o kinds.I c v text other some h = omega (arith, ap length h.spelled, length-number o Four (cast_unsigned w32 h.value))
cell_has_room o kinds.D c v text other some h = omega (arith, h.1)
cell_has_room o kinds.X c v text other some h = absurd (other refl)
cell_has_room o kinds.K c v text other some h = rw (h.spelled.spelled) (omega arith)
cell_has_room o kinds.C c v text other some h = tuples_have_room o Four Pair c v text some h
cell_has_room o kinds.B c v text other some h = tuples_have_room o Eight Pair c v text some h
cell_has_room o kinds.Z c v text other some h = tuples_have_room o Four Triple c v text some h
cell_has_room o kinds.Y c v text other some h = tuples_have_room o Eight Triple c v text some h
