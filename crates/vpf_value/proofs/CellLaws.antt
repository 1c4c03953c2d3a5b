-- Cells: what is read is spelled so, and what is spelled so is read.
use Rattle.std.specs.Prelude.{ℤ, FitsSigned}
use Rattle.std.specs.Int.{Width, w16, w32, w64, cast_signed, cast_unsigned}
use Rattle.std.proofs.Common.{◌≡◌, ℕ, ◌+◌, ◌*◌, ◌≤◌, Fits, List, ◌++◌, length, take, drop, Ok, refl, sym, ap, subst, ◌∙◌, append_assoc, take-add, arith}
use Rattle.std.proofs.Math.Facts.{Fits-of_z, sfits_to_z}
use Rattle.std.proofs.lemmas.Bool.{ltb-false}
use Rattle.std.proofs.lemmas.Int.{to_z-of_z, of_z-to_z}
use Rattle.std.proofs.lemmas.List.{take_at, drop_at, length-append, length-drop, length-take-le}
use Rattle.vpf_base.proofs.ByteLists.{IsBytes-drop}
use Rattle.vpf_triplet.specs.Bytes.{IsBytes}
use Rattle.vpf_base.proofs.Results.{bind_ok, guarded, ok_is}
use Rattle.vpf_base.specs.declared.orders.Order.{Order}
use Rattle.vpf_triplet.specs.declared.kinds.Kind.{Kind}
use Rattle.vpf_triplet.specs.declared.kinds.Kind.TheVariants as kinds
use Rattle.vpf_triplet.specs.declared.kinds.Count.{Count}
use Rattle.vpf_triplet.specs.declared.kinds.Count.TheVariants.{Fixed, Star}
use Rattle.vpf_base.specs.Numbers.{number, number_of}
use Rattle.vpf_triplet.specs.Reading.{triplet_at}
use Rattle.vpf_triplet.specs.Inner.SpelledLaws.{triplet_again, triplet_takes}
use Rattle.vpf_value.specs.declared.coords.WordWidth.{WordWidth}
use Rattle.vpf_value.specs.declared.coords.WordWidth.TheVariants.{Four, Eight}
use Rattle.vpf_value.specs.declared.coords.Tuple.{Tuple}
use Rattle.vpf_value.specs.declared.coords.Tuple.TheVariants.{Pair, Triple}
use Rattle.vpf_value.specs.Words.{word_bytes, tuple_len, words_of}
use Rattle.vpf_value.specs.Values.{Value, TextOf, Word4Of, Word8Of, NumberOf, DateOf, Nothing, TripletOf, WordsOf}
use Rattle.vpf_value.specs.Reading.{CellAnswer, sized, text_from, tuples_from, counted_from, many_from, triplet_from, cell_from}
use Rattle.vpf_value.specs.Spelling.{IsTextOf, IsWord4, IsWord8, IsSigned, IsDate, IsNothing, IsId, IsTuples, IsCountedCell, IsMany, IsCell}
use Rattle.vpf_value.specs.Inner.NumberLaws.{length-number, number_of-number, number-number_of, number_of_below, length-number16, number_of-number16, number-number_of16, number_of16_below}
use Rattle.vpf_value.proofs.WordLists.{length-words_of, words_of_below}
use Rattle.vpf_value.proofs.WordTexts.{length-word_text, words_of-word_text, word_text-words_of}
use Rattle.vpf_value.proofs.Readers.{sized-enough, counted-enough}

-- ---- cells of so many bytes

-- a cell that is read has its bytes, its value and its width
sized_takes : (n : ℕ) (v : Value) (bytes : List ℕ) (u : Value) (k : ℕ) → sized n v bytes ≡ Ok (u, k) → (n ≤ length bytes) × (u ≡ v) × (k ≡ n)
unfolding sized
sized_takes n v bytes u k e =
    let g = guarded _ _ _ _ e in
    let same = ok_is {x = (v, n)} {y = (u, k)} g.1 in
    (ltb-false _ _ g.0, sym (ap (λ (x : Value × ℕ). x.0) same), sym (ap (λ (x : Value × ℕ). x.1) same))

sized_again : (n : ℕ) (v u : Value) (text rest : List ℕ) → length text ≡ n → u ≡ v → sized n u (text ++ rest) ≡ Ok (v, length text)
sized_again n v u text rest long same =
    rw (sized-enough n u (text ++ rest) (omega (arith, length-append text rest)), same, long) refl

text_again : (n : ℕ) (v : Value) (text rest : List ℕ) → IsTextOf n v text → text_from n (text ++ rest) ≡ Ok (v, length text)
text_again n v text rest h = sized_again n v _ text rest h.1 (ap TextOf (take_at text rest n h.1) ∙ sym h.0)

text_takes : (n : ℕ) (bytes : List ℕ) (v : Value) (k : ℕ) → text_from n bytes ≡ Ok (v, k) → (k ≤ length bytes) × IsTextOf n v (take k bytes)
text_takes n bytes v k e =
    let t = sized_takes n _ bytes v k e in
    rw t.2 (t.0, (t.1, length-take-le n bytes t.0))

date_again : (v : Value) (text rest : List ℕ) → IsDate v text → sized 20 (DateOf (take 20 (text ++ rest))) (text ++ rest) ≡ Ok (v, length text)
date_again v text rest h = sized_again 20 v _ text rest h.1 (ap DateOf (take_at text rest 20 h.1) ∙ sym h.0)

date_takes : (bytes : List ℕ) (v : Value) (k : ℕ) → sized 20 (DateOf (take 20 bytes)) bytes ≡ Ok (v, k) → (k ≤ length bytes) × IsDate v (take k bytes)
date_takes bytes v k e =
    let t = sized_takes 20 _ bytes v k e in
    rw t.2 (t.0, (t.1, length-take-le 20 bytes t.0))

-- ---- words and numbers

word4_again : (o : Order) (v : Value) (text rest : List ℕ) → IsWord4 o v text → sized 4 (Word4Of (number_of o w32 (text ++ rest))) (text ++ rest) ≡ Ok (v, length text)
word4_again o v text rest h =
    let long : length text ≡ 4 = ap length h.spelled ∙ length-number o Four h.word in
    let word : number_of o w32 (text ++ rest) ≡ h.word = ap (λ (t : List ℕ). number_of o w32 (t ++ rest)) h.spelled ∙ number_of-number o Four h.word rest h.small in
    sized_again 4 v _ text rest long (ap Word4Of word ∙ sym h.is)

word4_takes : (o : Order) (bytes : List ℕ) (v : Value) (k : ℕ) → IsBytes bytes → sized 4 (Word4Of (number_of o w32 bytes)) bytes ≡ Ok (v, k) → (k ≤ length bytes) × IsWord4 o v (take k bytes)
word4_takes o bytes v k fits e =
    let t = sized_takes 4 _ bytes v k e in
    rw t.2 (t.0, record { word = number_of o w32 bytes; small = number_of_below o Four bytes fits; is = t.1; spelled = sym (number-number_of o Four bytes fits t.0) })

word8_again : (o : Order) (v : Value) (text rest : List ℕ) → IsWord8 o v text → sized 8 (Word8Of (number_of o w64 (text ++ rest))) (text ++ rest) ≡ Ok (v, length text)
word8_again o v text rest h =
    let long : length text ≡ 8 = ap length h.spelled ∙ length-number o Eight h.word in
    let word : number_of o w64 (text ++ rest) ≡ h.word = ap (λ (t : List ℕ). number_of o w64 (t ++ rest)) h.spelled ∙ number_of-number o Eight h.word rest h.small in
    sized_again 8 v _ text rest long (ap Word8Of word ∙ sym h.is)

word8_takes : (o : Order) (bytes : List ℕ) (v : Value) (k : ℕ) → IsBytes bytes → sized 8 (Word8Of (number_of o w64 bytes)) bytes ≡ Ok (v, k) → (k ≤ length bytes) × IsWord8 o v (take k bytes)
word8_takes o bytes v k fits e =
    let t = sized_takes 8 _ bytes v k e in
    rw t.2 (t.0, record { word = number_of o w64 bytes; small = number_of_below o Eight bytes fits; is = t.1; spelled = sym (number-number_of o Eight bytes fits t.0) })

-- two's complement takes a number in range to an unsigned one in range, and back
unsigned_fits : (w : Width) (z : ℤ) → FitsSigned w z → Fits w (cast_unsigned w z)
unsigned_fits w z h = Fits-of_z {w = w} {z = z} h

signed_fits : (w : Width) (n : ℕ) → Fits w n → FitsSigned w (cast_signed w n)
signed_fits w n h = sfits_to_z {w = w} {n = n} h

short_again : (o : Order) (v : Value) (text rest : List ℕ) → IsSigned o w16 v text → sized 2 (NumberOf (cast_signed w16 (number_of o w16 (text ++ rest)))) (text ++ rest) ≡ Ok (v, length text)
short_again o v text rest h =
    let n = cast_unsigned w16 h.value in
    let long : length text ≡ 2 = ap length h.spelled ∙ length-number16 o n in
    let number_is : number_of o w16 (text ++ rest) ≡ n = ap (λ (t : List ℕ). number_of o w16 (t ++ rest)) h.spelled ∙ number_of-number16 o n rest (unsigned_fits w16 h.value h.in_range).fits in
    sized_again 2 v _ text rest long (ap (λ (k : ℕ). NumberOf (cast_signed w16 k)) number_is ∙ ap NumberOf (to_z-of_z w16 h.value h.in_range) ∙ sym h.is)

short_takes : (o : Order) (bytes : List ℕ) (v : Value) (k : ℕ) → IsBytes bytes → sized 2 (NumberOf (cast_signed w16 (number_of o w16 bytes))) bytes ≡ Ok (v, k) → (k ≤ length bytes) × IsSigned o w16 v (take k bytes)
short_takes o bytes v k fits e =
    let t = sized_takes 2 _ bytes v k e in
    let n = number_of o w16 bytes in
    let small = number_of16_below o bytes fits in
    let back : cast_unsigned w16 (cast_signed w16 n) ≡ n = of_z-to_z w16 n small in
    rw t.2 (t.0, record { value = cast_signed w16 n; in_range = signed_fits w16 n (record { fits = small }); is = t.1; spelled = sym (ap (number o w16) back ∙ number-number_of16 o bytes fits t.0) })

long_again : (o : Order) (v : Value) (text rest : List ℕ) → IsSigned o w32 v text → sized 4 (NumberOf (cast_signed w32 (number_of o w32 (text ++ rest)))) (text ++ rest) ≡ Ok (v, length text)
long_again o v text rest h =
    let n = cast_unsigned w32 h.value in
    let long : length text ≡ 4 = ap length h.spelled ∙ length-number o Four n in
    let number_is : number_of o w32 (text ++ rest) ≡ n = ap (λ (t : List ℕ). number_of o w32 (t ++ rest)) h.spelled ∙ number_of-number o Four n rest (unsigned_fits w32 h.value h.in_range).fits in
    sized_again 4 v _ text rest long (ap (λ (k : ℕ). NumberOf (cast_signed w32 k)) number_is ∙ ap NumberOf (to_z-of_z w32 h.value h.in_range) ∙ sym h.is)

long_takes : (o : Order) (bytes : List ℕ) (v : Value) (k : ℕ) → IsBytes bytes → sized 4 (NumberOf (cast_signed w32 (number_of o w32 bytes))) bytes ≡ Ok (v, k) → (k ≤ length bytes) × IsSigned o w32 v (take k bytes)
long_takes o bytes v k fits e =
    let t = sized_takes 4 _ bytes v k e in
    let n = number_of o w32 bytes in
    let small = number_of_below o Four bytes fits in
    let back : cast_unsigned w32 (cast_signed w32 n) ≡ n = of_z-to_z w32 n small in
    rw t.2 (t.0, record { value = cast_signed w32 n; in_range = signed_fits w32 n (record { fits = small }); is = t.1; spelled = sym (ap (number o w32) back ∙ number-number_of o Four bytes fits t.0) })

-- ---- nothing, and triplet ids

id_again : (o : Order) (v : Value) (text rest : List ℕ) → IsId o v text → triplet_from o (text ++ rest) ≡ Ok (v, length text)
unfolding triplet_from
id_again o v text rest h = rw (triplet_again o h.triplet text rest h.spelled, h.is) refl

id_takes : (o : Order) (bytes : List ℕ) (v : Value) (k : ℕ) → IsBytes bytes → triplet_from o bytes ≡ Ok (v, k) → (k ≤ length bytes) × IsId o v (take k bytes)
unfolding triplet_from
id_takes o bytes v k fits e =
    let b = bind_ok (triplet_at o bytes) (λ x. Ok (TripletOf x.0, x.1)) (v, k) e in
    let same = ok_is {x = (TripletOf b.0.0, b.0.1)} {y = (v, k)} b.2 in
    let t = triplet_takes o bytes b.0.0 b.0.1 fits b.1 in
    let is : v ≡ TripletOf b.0.0 = sym (ap (λ (x : Value × ℕ). x.0) same) in
    let long : k ≡ b.0.1 = sym (ap (λ (x : Value × ℕ). x.1) same) in
    rw long (t.0, record { triplet = b.0.0; is = is; spelled = t.1 })

-- ---- tuples of words

tuples_again : (o : Order) (w : WordWidth) (tuple : Tuple) (n : ℕ) (v : Value) (text rest : List ℕ) → IsTuples o w tuple n v text → tuples_from o w tuple n (text ++ rest) ≡ Ok (v, length text)
tuples_again o w tuple n v text rest h =
    let m = tuple_len tuple * n in
    let long : length text ≡ word_bytes w * m = ap length h.spelled ∙ length-word_text o w h.words ∙ ap (λ (k : ℕ). word_bytes w * k) h.many in
    let words_are : words_of o w m (text ++ rest) ≡ h.words = rw (h.spelled, ← h.many) (words_of-word_text o w h.words rest h.small) in
    sized_again (word_bytes w * m) v _ text rest long (ap (WordsOf w) words_are ∙ sym h.is)

tuples_takes : (o : Order) (w : WordWidth) (tuple : Tuple) (n : ℕ) (bytes : List ℕ) (v : Value) (k : ℕ) → IsBytes bytes → tuples_from o w tuple n bytes ≡ Ok (v, k) → (k ≤ length bytes) × IsTuples o w tuple n v (take k bytes)
tuples_takes o w tuple n bytes v k fits e =
    let m = tuple_len tuple * n in
    let t = sized_takes (word_bytes w * m) _ bytes v k e in
    rw t.2 (t.0, record { words = words_of o w m bytes; many = length-words_of o w m bytes; small = words_of_below o w m bytes fits; is = t.1; spelled = sym (word_text-words_of o w m bytes fits t.0) })

-- ---- counts

-- whatever is spelled for a count is read for it
abbrev Again : (ℕ → List ℕ → CellAnswer) → (ℕ → Value → List ℕ → Type 0) → Type 0
Again read Is = (n : ℕ) (v : Value) (text rest : List ℕ) → Is n v text → read n (text ++ rest) ≡ Ok (v, length text)

-- whatever is read for a count is spelled for it
abbrev Takes : (ℕ → List ℕ → CellAnswer) → (ℕ → Value → List ℕ → Type 0) → Type 0
Takes read Is = (n : ℕ) (bytes : List ℕ) (v : Value) (k : ℕ) → IsBytes bytes → read n bytes ≡ Ok (v, k) → (k ≤ length bytes) × Is n v (take k bytes)

counted_again : (o : Order) (read : ℕ → List ℕ → CellAnswer) (Is : ℕ → Value → List ℕ → Type 0) → Again read Is → (v : Value) (text rest : List ℕ) → IsCountedCell o Is v text → counted_from o read (text ++ rest) ≡ Ok (v, length text)
counted_again o read Is again v text rest h =
    let front = number o w32 h.count in
    let four : length front ≡ 4 = length-number o Four h.count in
    let regrouped : text ++ rest ≡ front ++ (h.rest ++ rest) = ap (λ (x : List ℕ). x ++ rest) h.parts ∙ append_assoc front h.rest rest in
    let count_is : number_of o w32 (front ++ (h.rest ++ rest)) ≡ h.count = number_of-number o Four h.count (h.rest ++ rest) h.small in
    let behind : drop 4 (front ++ (h.rest ++ rest)) ≡ h.rest ++ rest = drop_at front (h.rest ++ rest) 4 four in
    let enough : 4 ≤ length (front ++ (h.rest ++ rest)) = omega (arith, length-append front (h.rest ++ rest)) in
    let long : length text ≡ 4 + length h.rest = ap length h.parts ∙ length-append front h.rest ∙ ap (λ (k : ℕ). k + length h.rest) four in
    rw (regrouped, counted-enough o read (front ++ (h.rest ++ rest)) enough, count_is, behind, again h.count v h.rest rest h.spelled, long) refl

counted_takes : (o : Order) (read : ℕ → List ℕ → CellAnswer) (Is : ℕ → Value → List ℕ → Type 0) → Takes read Is → (bytes : List ℕ) (v : Value) (k : ℕ) → IsBytes bytes → counted_from o read bytes ≡ Ok (v, k) → (k ≤ length bytes) × IsCountedCell o Is v (take k bytes)
unfolding counted_from
counted_takes o read Is takes bytes v k fits e =
    let n = number_of o w32 bytes in
    let g = guarded _ _ _ _ e in
    let enough : 4 ≤ length bytes = ltb-false _ _ g.0 in
    let b = bind_ok (read n (drop 4 bytes)) (λ x. Ok (x.0, 4 + x.1)) (v, k) g.1 in
    let same = ok_is {x = (b.0.0, 4 + b.0.1)} {y = (v, k)} b.2 in
    let is : b.0.0 ≡ v = ap (λ (x : Value × ℕ). x.0) same in
    let long : k ≡ 4 + b.0.1 = sym (ap (λ (x : Value × ℕ). x.1) same) in
    let t = takes n (drop 4 bytes) b.0.0 b.0.1 (IsBytes-drop 4 bytes fits) b.1 in
    let parts : take (4 + b.0.1) bytes ≡ number o w32 n ++ take b.0.1 (drop 4 bytes) = rw (number-number_of o Four bytes fits enough) (take-add 4 b.0.1 bytes) in
    rw long (omega (arith, length-drop 4 bytes, t.0), record { count = n; rest = take b.0.1 (drop 4 bytes); small = number_of_below o Four bytes fits; parts = parts; spelled = subst (λ (u : Value). Is n u (take b.0.1 (drop 4 bytes))) is t.1 })

many_again : (o : Order) (read : ℕ → List ℕ → CellAnswer) (Is : ℕ → Value → List ℕ → Type 0) → Again read Is → (count : Count) (v : Value) (text rest : List ℕ) → IsMany o Is count v text → many_from o read count (text ++ rest) ≡ Ok (v, length text)
many_again o read Is again (Fixed n) v text rest h = again n v text rest h
many_again o read Is again Star v text rest h = counted_again o read Is again v text rest h

many_takes : (o : Order) (read : ℕ → List ℕ → CellAnswer) (Is : ℕ → Value → List ℕ → Type 0) → Takes read Is → (count : Count) (bytes : List ℕ) (v : Value) (k : ℕ) → IsBytes bytes → many_from o read count bytes ≡ Ok (v, k) → (k ≤ length bytes) × IsMany o Is count v (take k bytes)
many_takes o read Is takes (Fixed n) bytes v k fits e = takes n bytes v k fits e
many_takes o read Is takes Star bytes v k fits e = counted_takes o read Is takes bytes v k fits e

-- ---- every kind

pub cell_again : (o : Order) (kind : Kind) (count : Count) (v : Value) (text rest : List ℕ) → IsCell o kind count v text → cell_from o kind count (text ++ rest) ≡ Ok (v, length text)
cell_again o kinds.T c v text rest h = many_again o text_from IsTextOf text_again c v text rest h
cell_again o kinds.L c v text rest h = many_again o text_from IsTextOf text_again c v text rest h
cell_again o kinds.M c v text rest h = many_again o text_from IsTextOf text_again c v text rest h
cell_again o kinds.N c v text rest h = many_again o text_from IsTextOf text_again c v text rest h
cell_again o kinds.F c v text rest h = word4_again o v text rest h
cell_again o kinds.R c v text rest h = word8_again o v text rest h
cell_again o kinds.S c v text rest h = short_again o v text rest h
cell_again o kinds.I c v text rest h = long_again o v text rest h
cell_again o kinds.D c v text rest h = date_again v text rest h
cell_again o kinds.X c v text rest h = rw (h.0, h.1) refl
cell_again o kinds.K c v text rest h = id_again o v text rest h
cell_again o kinds.C c v text rest h = many_again o (tuples_from o Four Pair) (IsTuples o Four Pair) (tuples_again o Four Pair) c v text rest h
cell_again o kinds.B c v text rest h = many_again o (tuples_from o Eight Pair) (IsTuples o Eight Pair) (tuples_again o Eight Pair) c v text rest h
cell_again o kinds.Z c v text rest h = many_again o (tuples_from o Four Triple) (IsTuples o Four Triple) (tuples_again o Four Triple) c v text rest h
cell_again o kinds.Y c v text rest h = many_again o (tuples_from o Eight Triple) (IsTuples o Eight Triple) (tuples_again o Eight Triple) c v text rest h

texts_takes : Takes text_from IsTextOf
texts_takes n bytes v k fits e = text_takes n bytes v k e

abbrev nothing_read : CellAnswer
nothing_read = Ok (Nothing, 0)

nothing_takes : (bytes : List ℕ) (v : Value) (k : ℕ) → nothing_read ≡ Ok (v, k) → (k ≤ length bytes) × IsNothing v (take k bytes)
nothing_takes bytes v k e =
    let same = ok_is {x = (Nothing, 0)} {y = (v, k)} e in
    let is : v ≡ Nothing = sym (ap (λ (x : Value × ℕ). x.0) same) in
    let long : k ≡ 0 = sym (ap (λ (x : Value × ℕ). x.1) same) in
    rw long (omega arith, (is, refl))

pub cell_takes : (o : Order) (kind : Kind) (count : Count) (bytes : List ℕ) (v : Value) (n : ℕ) → IsBytes bytes → cell_from o kind count bytes ≡ Ok (v, n) → (n ≤ length bytes) × IsCell o kind count v (take n bytes)
cell_takes o kinds.T c bytes v n fits e = many_takes o text_from IsTextOf texts_takes c bytes v n fits e
cell_takes o kinds.L c bytes v n fits e = many_takes o text_from IsTextOf texts_takes c bytes v n fits e
cell_takes o kinds.M c bytes v n fits e = many_takes o text_from IsTextOf texts_takes c bytes v n fits e
cell_takes o kinds.N c bytes v n fits e = many_takes o text_from IsTextOf texts_takes c bytes v n fits e
cell_takes o kinds.F c bytes v n fits e = word4_takes o bytes v n fits e
cell_takes o kinds.R c bytes v n fits e = word8_takes o bytes v n fits e
cell_takes o kinds.S c bytes v n fits e = short_takes o bytes v n fits e
cell_takes o kinds.I c bytes v n fits e = long_takes o bytes v n fits e
cell_takes o kinds.D c bytes v n fits e = date_takes bytes v n e
cell_takes o kinds.X c bytes v n fits e = nothing_takes bytes v n e
cell_takes o kinds.K c bytes v n fits e = id_takes o bytes v n fits e
cell_takes o kinds.C c bytes v n fits e = many_takes o (tuples_from o Four Pair) (IsTuples o Four Pair) (tuples_takes o Four Pair) c bytes v n fits e
cell_takes o kinds.B c bytes v n fits e = many_takes o (tuples_from o Eight Pair) (IsTuples o Eight Pair) (tuples_takes o Eight Pair) c bytes v n fits e
cell_takes o kinds.Z c bytes v n fits e = many_takes o (tuples_from o Four Triple) (IsTuples o Four Triple) (tuples_takes o Four Triple) c bytes v n fits e
cell_takes o kinds.Y c bytes v n fits e = many_takes o (tuples_from o Eight Triple) (IsTuples o Eight Triple) (tuples_takes o Eight Triple) c bytes v n fits e
