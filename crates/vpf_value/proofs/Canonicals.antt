-- The canonical spelling is a spelling, and the shortest; and how long it is.
use Rattle.std.specs.Int.{Width, w16, w32}
use Rattle.std.proofs.Common.{[], ◌≡◌, ◌≢◌, ℕ, ◌+◌, ◌*◌, ◌/◌, ◌≤◌, List, ◌++◌, length, Option, Some, None, Ok, refl, sym, ap, ◌∙◌, arith, inl, inr}
use Rattle.std.proofs.lemmas.Bool.{cases_lt}
use Rattle.std.proofs.lemmas.List.{length-append}
use Rattle.vpf_base.proofs.Results.{ok_not_err, ok_is}
use Rattle.vpf_base.specs.declared.orders.Order.{Order}
use Rattle.vpf_triplet.specs.declared.kinds.Kind.{Kind}
use Rattle.vpf_triplet.specs.declared.kinds.Kind.TheVariants as kinds
use Rattle.vpf_triplet.specs.declared.kinds.Count.{Count}
use Rattle.vpf_triplet.specs.declared.kinds.Count.TheVariants.{Fixed, Star}
use Rattle.vpf_base.specs.Numbers.{number}
use Rattle.vpf_triplet.specs.Inner.CanonicalLaws.{canonical_spelled, length-canonical, shortest as shortest_triplet}
use Rattle.vpf_value.specs.declared.coords.WordWidth.{WordWidth}
use Rattle.vpf_value.specs.declared.coords.WordWidth.TheVariants.{Four, Eight}
use Rattle.vpf_value.specs.declared.coords.Tuple.{Tuple}
use Rattle.vpf_value.specs.declared.coords.Tuple.TheVariants.{Pair, Triple}
use Rattle.vpf_value.specs.Words.{tuple_len, spelled_words, word_bytes}
use Rattle.vpf_value.specs.Values.{Value, TextOf, Word4Of, Word8Of, NumberOf, DateOf, Nothing, TripletOf, WordsOf}
use Rattle.vpf_value.specs.Reading.{cell_from}
use Rattle.vpf_value.specs.Spelling.{IsTextOf, IsWord4, IsWord8, IsSigned, IsDate, IsNothing, IsId, IsTuples, IsMany, IsCell}
use Rattle.vpf_value.specs.Inner.Fitting.{FitsText, FitsWord4, FitsWord8, FitsNumber, FitsDate, FitsNothing, FitsId, FitsTuples, FitsKind, FitsCell}
use Rattle.vpf_value.specs.Widths.{cell_width, many_width}
use Rattle.vpf_value.specs.Canonical.{with_count, spelled_text, spelled_word4, spelled_word8, spelled_number, spelled_date, spelled_id, spelled_tuples, spelled}
use Rattle.vpf_value.specs.Inner.NumberLaws.{length-number, length-number16}
use Rattle.vpf_value.proofs.WordTexts.{length-word_text}
use Rattle.vpf_value.proofs.CellLaws.{cell_again}
use Rattle.vpf_value.proofs.WidthLaws.{fixed_cell}

-- ---- it is a spelling

text_canonical : (o : Order) (count : Count) (v : Value) → FitsText count v → IsMany o IsTextOf count v (spelled_text o count v)
text_canonical o (Fixed n) (TextOf text) h = (refl, h)
text_canonical o Star (TextOf text) h = record { count = length text; rest = text; small = h; parts = refl; spelled = (refl, refl) }
text_canonical o c v h = absurd h

word4_canonical : (o : Order) (v : Value) → FitsWord4 v → IsWord4 o v (spelled_word4 o v)
word4_canonical o (Word4Of word) h = record { word = word; small = h; is = refl; spelled = refl }
word4_canonical o v h = absurd h

word8_canonical : (o : Order) (v : Value) → FitsWord8 v → IsWord8 o v (spelled_word8 o v)
word8_canonical o (Word8Of word) h = record { word = word; small = h; is = refl; spelled = refl }
word8_canonical o v h = absurd h

number_canonical : (o : Order) (w : Width) (v : Value) → FitsNumber w v → IsSigned o w v (spelled_number o w v)
number_canonical o w (NumberOf z) h = record { value = z; in_range = h; is = refl; spelled = refl }
number_canonical o w v h = absurd h

date_canonical : (v : Value) → FitsDate v → IsDate v (spelled_date v)
date_canonical (DateOf text) h = (refl, h)
date_canonical v h = absurd h

nothing_canonical : (v : Value) → FitsNothing v → IsNothing v []
nothing_canonical Nothing h = (refl, refl)
nothing_canonical v h = absurd h

id_canonical : (o : Order) (v : Value) → FitsId v → IsId o v (spelled_id o v)
id_canonical o (TripletOf t) h = record { triplet = t; is = refl; spelled = canonical_spelled o t (record { id = h.0; tile = h.1; ext = h.2 }) }
id_canonical o v h = absurd h

whole_tuples : (tuple : Tuple) (words tuples : ℕ) → words ≡ tuple_len tuple * tuples → words / tuple_len tuple ≡ tuples
whole_tuples Pair words tuples e = omega arith
whole_tuples Triple words tuples e = omega arith

tuples_canonical : (o : Order) (width : WordWidth) (tuple : Tuple) (count : Count) (v : Value) → FitsTuples width tuple count v → IsMany o (IsTuples o width tuple) count v (spelled_tuples o tuple count v)
tuples_canonical o width tuple (Fixed n) (WordsOf w words) h =
    let is : WordsOf w words ≡ WordsOf width words = ap (λ (x : WordWidth). WordsOf x words) h.0 in
    record { words = words; many = h.1.whole ∙ ap (λ (k : ℕ). tuple_len tuple * k) h.1.held; small = h.2; is = is; spelled = ap (λ (x : WordWidth). spelled_words o x words) h.0 }
tuples_canonical o width tuple Star (WordsOf w words) h =
    let is : WordsOf w words ≡ WordsOf width words = ap (λ (x : WordWidth). WordsOf x words) h.0 in
    let tuples : length words / tuple_len tuple ≡ h.1.tuples = whole_tuples tuple (length words) h.1.tuples h.1.whole in
    record {
      count = length words / tuple_len tuple;
      rest = spelled_words o w words;
      small = rw tuples h.1.held;
      parts = refl;
      spelled = record { words = words; many = rw tuples h.1.whole; small = h.2; is = is; spelled = ap (λ (x : WordWidth). spelled_words o x words) h.0 };
    }
tuples_canonical o width tuple c v h = absurd h

kind_canonical : (o : Order) (kind : Kind) (count : Count) (v : Value) → FitsKind kind count v → IsCell o kind count v (spelled o kind count v)
kind_canonical o kinds.T c v h = text_canonical o c v h
kind_canonical o kinds.L c v h = text_canonical o c v h
kind_canonical o kinds.M c v h = text_canonical o c v h
kind_canonical o kinds.N c v h = text_canonical o c v h
kind_canonical o kinds.F c v h = word4_canonical o v h
kind_canonical o kinds.R c v h = word8_canonical o v h
kind_canonical o kinds.S c v h = number_canonical o w16 v h
kind_canonical o kinds.I c v h = number_canonical o w32 v h
kind_canonical o kinds.D c v h = date_canonical v h
kind_canonical o kinds.X c v h = nothing_canonical v h
kind_canonical o kinds.K c v h = id_canonical o v h
kind_canonical o kinds.C c v h = tuples_canonical o Four Pair c v h
kind_canonical o kinds.B c v h = tuples_canonical o Eight Pair c v h
kind_canonical o kinds.Z c v h = tuples_canonical o Four Triple c v h
kind_canonical o kinds.Y c v h = tuples_canonical o Eight Triple c v h

pub cell_canonical : (o : Order) (kind : Kind) (count : Count) (v : Value) → FitsCell kind count v → IsCell o kind count v (spelled o kind count v)
cell_canonical o kind count v h = kind_canonical o kind count v h.1

pub canonical_again : (o : Order) (kind : Kind) (count : Count) (v : Value) (rest : List ℕ) → FitsCell kind count v → cell_from o kind count (spelled o kind count v ++ rest) ≡ Ok (v, length (spelled o kind count v))
canonical_again o kind count v rest h = cell_again o kind count v (spelled o kind count v) rest (cell_canonical o kind count v h)

-- ---- no spelling is shorter: but for triplet ids there is only one

one_text : (o : Order) (count : Count) (v : Value) (bytes : List ℕ) → IsMany o IsTextOf count v bytes → bytes ≡ spelled_text o count v
one_text o (Fixed n) v bytes h = rw (h.0) refl
one_text o Star v bytes h = rw (h.spelled.0, h.spelled.1) h.parts

one_tuples : (o : Order) (width : WordWidth) (tuple : Tuple) (count : Count) (v : Value) (bytes : List ℕ) → IsMany o (IsTuples o width tuple) count v bytes → bytes ≡ spelled_tuples o tuple count v
one_tuples o width tuple (Fixed n) v bytes h = rw (h.is) h.spelled
one_tuples o width tuple Star v bytes h =
    let tuples : length h.spelled.words / tuple_len tuple ≡ h.count = whole_tuples tuple (length h.spelled.words) h.count h.spelled.many in
    rw (h.spelled.is, tuples, ← h.spelled.spelled) h.parts

pub one_spelling : (o : Order) (kind : Kind) (count : Count) (v : Value) (bytes : List ℕ) → kind ≢ kinds.K → IsCell o kind count v bytes → bytes ≡ spelled o kind count v
one_spelling o kinds.T c v bytes other h = one_text o c v bytes h
one_spelling o kinds.L c v bytes other h = one_text o c v bytes h
one_spelling o kinds.M c v bytes other h = one_text o c v bytes h
one_spelling o kinds.N c v bytes other h = one_text o c v bytes h
one_spelling o kinds.F c v bytes other h = rw (h.is) h.spelled
one_spelling o kinds.R c v bytes other h = rw (h.is) h.spelled
one_spelling o kinds.S c v bytes other h = rw (h.is) h.spelled
one_spelling o kinds.I c v bytes other h = rw (h.is) h.spelled
one_spelling o kinds.D c v bytes other h = rw (h.0) refl
one_spelling o kinds.X c v bytes other h = h.1
one_spelling o kinds.K c v bytes other h = absurd (other refl)
one_spelling o kinds.C c v bytes other h = one_tuples o Four Pair c v bytes h
one_spelling o kinds.B c v bytes other h = one_tuples o Eight Pair c v bytes h
one_spelling o kinds.Z c v bytes other h = one_tuples o Four Triple c v bytes h
one_spelling o kinds.Y c v bytes other h = one_tuples o Eight Triple c v bytes h

id_shortest : (o : Order) (v : Value) (bytes : List ℕ) → IsId o v bytes → length (spelled_id o v) ≤ length bytes
id_shortest o v bytes h = rw (h.is) (shortest_triplet o h.triplet bytes h.spelled)

same_length : (a b : List ℕ) → b ≡ a → length a ≤ length b
same_length a b e = rw e (omega arith)

pub shortest : (o : Order) (kind : Kind) (count : Count) (v : Value) (bytes : List ℕ) → IsCell o kind count v bytes → length (spelled o kind count v) ≤ length bytes
shortest o kinds.K c v bytes h = id_shortest o v bytes h
shortest o kinds.T c v bytes h = same_length _ bytes (one_spelling o kinds.T c v bytes (λ e. cc) h)
shortest o kinds.L c v bytes h = same_length _ bytes (one_spelling o kinds.L c v bytes (λ e. cc) h)
shortest o kinds.M c v bytes h = same_length _ bytes (one_spelling o kinds.M c v bytes (λ e. cc) h)
shortest o kinds.N c v bytes h = same_length _ bytes (one_spelling o kinds.N c v bytes (λ e. cc) h)
shortest o kinds.F c v bytes h = same_length _ bytes (one_spelling o kinds.F c v bytes (λ e. cc) h)
shortest o kinds.R c v bytes h = same_length _ bytes (one_spelling o kinds.R c v bytes (λ e. cc) h)
shortest o kinds.S c v bytes h = same_length _ bytes (one_spelling o kinds.S c v bytes (λ e. cc) h)
shortest o kinds.I c v bytes h = same_length _ bytes (one_spelling o kinds.I c v bytes (λ e. cc) h)
shortest o kinds.D c v bytes h = same_length _ bytes (one_spelling o kinds.D c v bytes (λ e. cc) h)
shortest o kinds.X c v bytes h = same_length _ bytes (one_spelling o kinds.X c v bytes (λ e. cc) h)
shortest o kinds.C c v bytes h = same_length _ bytes (one_spelling o kinds.C c v bytes (λ e. cc) h)
shortest o kinds.B c v bytes h = same_length _ bytes (one_spelling o kinds.B c v bytes (λ e. cc) h)
shortest o kinds.Z c v bytes h = same_length _ bytes (one_spelling o kinds.Z c v bytes (λ e. cc) h)
shortest o kinds.Y c v bytes h = same_length _ bytes (one_spelling o kinds.Y c v bytes (λ e. cc) h)

-- ---- how long it is

-- where cells have one width, that is its length
pub length-fixed : (o : Order) (kind : Kind) (count : Count) (v : Value) (width : ℕ) → cell_width kind count ≡ Some width → FitsCell kind count v → length (spelled o kind count v) ≡ width
length-fixed o kind count v width e h =
    let bytes = spelled o kind count v ++ [] in
    let again = canonical_again o kind count v [] h in
    let takes = fixed_cell o kind count bytes width e in
    elim (cases_lt (length bytes) width) [
      | inl short ↦ absurd (ok_not_err _ _ _ again (takes.cut short))
      | inr long ↦ ap (λ (p : Value × ℕ). p.1) (ok_is {x = (v, length (spelled o kind count v))} {y = ((takes.whole long).0, width)} (sym again ∙ (takes.whole long).1))
    ]

abbrev no_width : Option ℕ
no_width = None

length-counted_words : (o : Order) (tuple : Tuple) (count : Count) (w : WordWidth) (words : List ℕ) → count ≡ Star → length (spelled_tuples o tuple count (WordsOf w words)) ≡ 4 + word_bytes w * length words
length-counted_words o tuple (Fixed n) w words e = absurd cc
length-counted_words o tuple Star w words e =
    let front = number o w32 (length words / tuple_len tuple) in
    omega (arith, length-append front (spelled_words o w words), length-number o Four (length words / tuple_len tuple), length-word_text o w words)

star_varies : (size : ℕ) (count : Count) → many_width size count ≡ None → count ≡ Star
star_varies size (Fixed n) e = absurd cc
star_varies size Star e = refl

-- words behind a count of their own
pub length-words : (o : Order) (kind : Kind) (count : Count) (w : WordWidth) (words : List ℕ) → cell_width kind count ≡ None → FitsCell kind count (WordsOf w words) → length (spelled o kind count (WordsOf w words)) ≡ 4 + word_bytes w * length words
length-words o kinds.C c w words e h = length-counted_words o Pair c w words (star_varies 8 c e)
length-words o kinds.B c w words e h = length-counted_words o Pair c w words (star_varies 16 c e)
length-words o kinds.Z c w words e h = length-counted_words o Triple c w words (star_varies 12 c e)
length-words o kinds.Y c w words e h = length-counted_words o Triple c w words (star_varies 24 c e)
length-words o kind c w words e h = absurd h.1

-- ---- it is as long in either order

same_counted : (o p : Order) (count : Count) (many : ℕ) (a b : List ℕ) → length a ≡ length b → length (with_count o count many a) ≡ length (with_count p count many b)
same_counted o p (Fixed n) many a b e = e
same_counted o p Star many a b e = omega (arith, length-append (number o w32 many) a, length-append (number p w32 many) b, length-number o Four many, length-number p Four many)

same_text : (o p : Order) (count : Count) (v : Value) → length (spelled_text o count v) ≡ length (spelled_text p count v)
same_text o p count (TextOf text) = same_counted o p count (length text) text text refl
same_text o p count v = refl

same_word4 : (o p : Order) (v : Value) → length (spelled_word4 o v) ≡ length (spelled_word4 p v)
same_word4 o p (Word4Of word) = length-number o Four word ∙ sym (length-number p Four word)
same_word4 o p v = refl

same_word8 : (o p : Order) (v : Value) → length (spelled_word8 o v) ≡ length (spelled_word8 p v)
same_word8 o p (Word8Of word) = length-number o Eight word ∙ sym (length-number p Eight word)
same_word8 o p v = refl

same_short : (o p : Order) (v : Value) → length (spelled_number o w16 v) ≡ length (spelled_number p w16 v)
same_short o p (NumberOf z) = length-number16 o _ ∙ sym (length-number16 p _)
same_short o p v = refl

same_long : (o p : Order) (v : Value) → length (spelled_number o w32 v) ≡ length (spelled_number p w32 v)
same_long o p (NumberOf z) = length-number o Four _ ∙ sym (length-number p Four _)
same_long o p v = refl

same_id : (o p : Order) (v : Value) → length (spelled_id o v) ≡ length (spelled_id p v)
same_id o p (TripletOf t) = length-canonical o t ∙ sym (length-canonical p t)
same_id o p v = refl

same_tuples : (o p : Order) (tuple : Tuple) (count : Count) (v : Value) → length (spelled_tuples o tuple count v) ≡ length (spelled_tuples p tuple count v)
same_tuples o p tuple count (WordsOf w words) = same_counted o p count (length words / tuple_len tuple) _ _ (length-word_text o w words ∙ sym (length-word_text p w words))
same_tuples o p tuple count v = refl

pub length-either : (o p : Order) (kind : Kind) (count : Count) (v : Value) → length (spelled o kind count v) ≡ length (spelled p kind count v)
length-either o p kinds.T c v = same_text o p c v
length-either o p kinds.L c v = same_text o p c v
length-either o p kinds.M c v = same_text o p c v
length-either o p kinds.N c v = same_text o p c v
length-either o p kinds.F c v = same_word4 o p v
length-either o p kinds.R c v = same_word8 o p v
length-either o p kinds.S c v = same_short o p v
length-either o p kinds.I c v = same_long o p v
length-either o p kinds.D c v = refl
length-either o p kinds.X c v = refl
length-either o p kinds.K c v = same_id o p v
length-either o p kinds.C c v = same_tuples o p Pair c v
length-either o p kinds.B c v = same_tuples o p Pair c v
length-either o p kinds.Z c v = same_tuples o p Triple c v
length-either o p kinds.Y c v = same_tuples o p Triple c v
