-- The words of a cell turned round are its words in the other order.
use Rattle.std.specs.Int.{w16, w32, w64, cast_unsigned}
use Rattle.std.proofs.Common.{[], ◌≡◌, ◌≢◌, ℕ, ◌/◌, List, ◌∷◌, length, reverse, Some, None, refl, sym, ◌∙◌, arith}
use Rattle.std.proofs.lemmas.List.{append-nil, take_at, drop_at, take_all, drop_all}
use Rattle.vpf_base.specs.declared.orders.Order.{Order}
use Rattle.vpf_base.specs.declared.orders.Order.TheVariants.{Little, Big}
use Rattle.vpf_triplet.specs.declared.kinds.Kind.{Kind}
use Rattle.vpf_triplet.specs.declared.kinds.Kind.TheVariants as kinds
use Rattle.vpf_triplet.specs.declared.kinds.Count.{Count}
use Rattle.vpf_triplet.specs.declared.kinds.Count.TheVariants.{Fixed, Star}
use Rattle.vpf_base.specs.Numbers.{number}
use Rattle.vpf_value.specs.declared.coords.WordWidth.{WordWidth}
use Rattle.vpf_value.specs.declared.coords.WordWidth.TheVariants as widths
use Rattle.vpf_value.specs.declared.coords.Tuple.{Tuple}
use Rattle.vpf_value.specs.declared.coords.Tuple.TheVariants.{Pair, Triple}
use Rattle.vpf_value.specs.declared.turning.WordSize.{WordSize}
use Rattle.vpf_value.specs.declared.turning.WordSize.TheVariants.{One, Two, Four, Eight}
use Rattle.vpf_value.specs.Words.{word_bytes, number_width, spelled_words}
use Rattle.vpf_value.specs.Values.{Value, TextOf, Word4Of, Word8Of, NumberOf, DateOf, WordsOf}
use Rattle.vpf_value.specs.Inner.Fitting.{FitsKind, FitsCell, FitsTuples}
use Rattle.vpf_value.specs.Widths.{cell_width, many_width}
use Rattle.vpf_value.specs.Canonical.{spelled, spelled_text, spelled_word4, spelled_word8, spelled_number, spelled_date, spelled_tuples}
use Rattle.vpf_value.specs.Inner.Turning.{each_piece, word_size, bytes_of_word, turned_cell}
use Rattle.vpf_value.specs.Inner.NumberLaws.{length-number, length-number16}
use Rattle.vpf_value.proofs.WordTexts.{length-word_text}
use Rattle.vpf_value.specs.Inner.TurnedLaws.{bytes_stay}

-- ---- bytes

-- ---- a word

reversed16 : (o p : Order) (n : ℕ) → o ≢ p → number p w16 n ≡ reverse (number o w16 n)
reversed16 Little Little n h = absurd (h refl)
reversed16 Little Big n h = refl
reversed16 Big Little n h = refl
reversed16 Big Big n h = absurd (h refl)

reversed : (o p : Order) (w : WordWidth) (n : ℕ) → o ≢ p → number p (number_width w) n ≡ reverse (number o (number_width w) n)
reversed Little Little w n h = absurd (h refl)
reversed Little Big widths.Four n h = refl
reversed Little Big widths.Eight n h = refl
reversed Big Little widths.Four n h = refl
reversed Big Little widths.Eight n h = refl
reversed Big Big w n h = absurd (h refl)

one_word : (size : ℕ) (s : List ℕ) → length s ≡ size → each_piece reverse 1 size s ≡ reverse s
unfolding each_piece
one_word size s e = rw (take_all size s (omega (arith, e)), drop_all size s (omega (arith, e))) (append-nil (reverse s))

whole_word : (size : WordSize) (s : List ℕ) → length s ≡ bytes_of_word size → turned_cell size s ≡ reverse s
whole_word One s e = let n : length s / 1 ≡ 1 = omega (arith, e) in rw n (one_word 1 s e)
whole_word Two s e = let n : length s / 2 ≡ 1 = omega (arith, e) in rw n (one_word 2 s e)
whole_word Four s e = let n : length s / 4 ≡ 1 = omega (arith, e) in rw n (one_word 4 s e)
whole_word Eight s e = let n : length s / 8 ≡ 1 = omega (arith, e) in rw n (one_word 8 s e)

turned16 : (o p : Order) (n : ℕ) → o ≢ p → number p w16 n ≡ turned_cell Two (number o w16 n)
turned16 o p n h = reversed16 o p n h ∙ sym (whole_word Two (number o w16 n) (length-number16 o n))

turned32 : (o p : Order) (n : ℕ) → o ≢ p → number p w32 n ≡ turned_cell Four (number o w32 n)
turned32 o p n h = reversed o p widths.Four n h ∙ sym (whole_word Four (number o w32 n) (length-number o widths.Four n))

turned64 : (o p : Order) (n : ℕ) → o ≢ p → number p w64 n ≡ turned_cell Eight (number o w64 n)
turned64 o p n h = reversed o p widths.Eight n h ∙ sym (whole_word Eight (number o w64 n) (length-number o widths.Eight n))

nothing_turned : (size : WordSize) → [] ≡ turned_cell size []
unfolding each_piece
nothing_turned One = refl
nothing_turned Two = refl
nothing_turned Four = refl
nothing_turned Eight = refl

-- ---- words, one after another

words_turned : (o p : Order) (w : WordWidth) (words : List ℕ) → o ≢ p → spelled_words p w words ≡ each_piece reverse (length words) (word_bytes w) (spelled_words o w words)
unfolding spelled_words each_piece
words_turned o p w [] h = refl
words_turned o p w (n ∷ ns) h =
    let word = number o (number_width w) n in
    let rest = spelled_words o w ns in
    let front = take_at word rest (word_bytes w) (length-number o w n) in
    let back = drop_at word rest (word_bytes w) (length-number o w n) in
    rw (front, back, reversed o p w n h, words_turned o p w ns h) refl

tuples_turned4 : (o p : Order) (words : List ℕ) → o ≢ p → spelled_words p widths.Four words ≡ turned_cell Four (spelled_words o widths.Four words)
tuples_turned4 o p words h =
    let n : length (spelled_words o widths.Four words) / 4 ≡ length words = omega (arith, length-word_text o widths.Four words) in
    rw n (words_turned o p widths.Four words h)

tuples_turned8 : (o p : Order) (words : List ℕ) → o ≢ p → spelled_words p widths.Eight words ≡ turned_cell Eight (spelled_words o widths.Eight words)
tuples_turned8 o p words h =
    let n : length (spelled_words o widths.Eight words) / 8 ≡ length words = omega (arith, length-word_text o widths.Eight words) in
    rw n (words_turned o p widths.Eight words h)

-- ---- cells

no_width : (size : ℕ) (count : Count) (w : ℕ) → many_width size count ≡ Some w → count ≢ Star
no_width size (Fixed n) w e h = cc
no_width size Star w e h = cc

text_turned : (o p : Order) (count : Count) (v : Value) → count ≢ Star → spelled_text p count v ≡ turned_cell One (spelled_text o count v)
text_turned o p (Fixed n) (TextOf text) h = sym (bytes_stay (length text / 1) text)
text_turned o p Star v h = absurd (h refl)
text_turned o p count v h = nothing_turned One

date_turned : (v : Value) → spelled_date v ≡ turned_cell One (spelled_date v)
date_turned (DateOf text) = sym (bytes_stay (length text / 1) text)
date_turned v = nothing_turned One

word4_turned : (o p : Order) (v : Value) → o ≢ p → spelled_word4 p v ≡ turned_cell Four (spelled_word4 o v)
word4_turned o p (Word4Of word) h = turned32 o p word h
word4_turned o p v h = nothing_turned Four

word8_turned : (o p : Order) (v : Value) → o ≢ p → spelled_word8 p v ≡ turned_cell Eight (spelled_word8 o v)
word8_turned o p (Word8Of word) h = turned64 o p word h
word8_turned o p v h = nothing_turned Eight

short_turned : (o p : Order) (v : Value) → o ≢ p → spelled_number p w16 v ≡ turned_cell Two (spelled_number o w16 v)
short_turned o p (NumberOf z) h = turned16 o p (cast_unsigned w16 z) h
short_turned o p v h = nothing_turned Two

long_turned : (o p : Order) (v : Value) → o ≢ p → spelled_number p w32 v ≡ turned_cell Four (spelled_number o w32 v)
long_turned o p (NumberOf z) h = turned32 o p (cast_unsigned w32 z) h
long_turned o p v h = nothing_turned Four

coords4_turned : (o p : Order) (tuple : Tuple) (count : Count) (v : Value) → o ≢ p → count ≢ Star → FitsTuples widths.Four tuple count v → spelled_tuples p tuple count v ≡ turned_cell Four (spelled_tuples o tuple count v)
coords4_turned o p tuple (Fixed n) (WordsOf w words) other h f = rw (f.0) (tuples_turned4 o p words other)
coords4_turned o p tuple Star v other h f = absurd (h refl)
coords4_turned o p tuple count v other h f = absurd f

coords8_turned : (o p : Order) (tuple : Tuple) (count : Count) (v : Value) → o ≢ p → count ≢ Star → FitsTuples widths.Eight tuple count v → spelled_tuples p tuple count v ≡ turned_cell Eight (spelled_tuples o tuple count v)
coords8_turned o p tuple (Fixed n) (WordsOf w words) other h f = rw (f.0) (tuples_turned8 o p words other)
coords8_turned o p tuple Star v other h f = absurd (h refl)
coords8_turned o p tuple count v other h f = absurd f

kind_turned : (o p : Order) (kind : Kind) (count : Count) (v : Value) (width : ℕ) → o ≢ p → cell_width kind count ≡ Some width → FitsKind kind count v → spelled p kind count v ≡ turned_cell (word_size kind) (spelled o kind count v)
kind_turned o p kinds.T c v w h e f = text_turned o p c v (no_width 1 c w e)
kind_turned o p kinds.L c v w h e f = text_turned o p c v (no_width 1 c w e)
kind_turned o p kinds.M c v w h e f = text_turned o p c v (no_width 1 c w e)
kind_turned o p kinds.N c v w h e f = text_turned o p c v (no_width 1 c w e)
kind_turned o p kinds.F c v w h e f = word4_turned o p v h
kind_turned o p kinds.R c v w h e f = word8_turned o p v h
kind_turned o p kinds.S c v w h e f = short_turned o p v h
kind_turned o p kinds.I c v w h e f = long_turned o p v h
kind_turned o p kinds.D c v w h e f = date_turned v
kind_turned o p kinds.X c v w h e f = nothing_turned One
kind_turned o p kinds.K c v w h e f = absurd (let n : None ≡ Some w = e in cc)
kind_turned o p kinds.C c v w h e f = coords4_turned o p Pair c v h (no_width 8 c w e) f
kind_turned o p kinds.B c v w h e f = coords8_turned o p Pair c v h (no_width 16 c w e) f
kind_turned o p kinds.Z c v w h e f = coords4_turned o p Triple c v h (no_width 12 c w e) f
kind_turned o p kinds.Y c v w h e f = coords8_turned o p Triple c v h (no_width 24 c w e) f

pub cell_turned : (order other : Order) (kind : Kind) (count : Count) (v : Value) (width : ℕ) → order ≢ other → cell_width kind count ≡ Some width → FitsCell kind count v → spelled other kind count v ≡ turned_cell (word_size kind) (spelled order kind count v)
cell_turned order other kind count v width h e f = kind_turned order other kind count v width h e f.1
