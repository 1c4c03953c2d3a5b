-- What the readers answer, from what their parts answer.
use Rattle.std.specs.Prelude.{MatchResult}
use Rattle.std.specs.Int.{w32}
use Rattle.std.proofs.Common.{◌≡◌, ℕ, ◌+◌, ◌-◌, ◌*◌, ◌/◌, ◌≤◌, List, length, drop, take, Result, Ok, Err, refl, sym, ap, subst, ◌∙◌, arith}
use Rattle.std.proofs.lemmas.Bool.{le-ltb}
use Rattle.std.proofs.lemmas.List.{drop-drop, length-take-le}
use Rattle.vpf_triplet.specs.Results.{◌>>=◌}
use Rattle.vpf_base.specs.declared.orders.Order.{Order}
use Rattle.vpf_triplet.specs.declared.places.Place.{Place}
use Rattle.vpf_base.specs.Numbers.{number_of}
use Rattle.vpf_triplet.specs.Places.{fault}
use Rattle.vpf_value.specs.declared.coords.WordWidth.{WordWidth}
use Rattle.vpf_value.specs.declared.coords.WordWidth.TheVariants.{Four, Eight}
use Rattle.vpf_value.specs.declared.coords.Tuple.{Tuple}
use Rattle.vpf_value.specs.declared.cells.Cell.{Cell}
use Rattle.vpf_value.specs.Words.{word_bytes, tuple_len, words_of}
use Rattle.vpf_value.specs.Inner.Coordinates.{words_in}
use Rattle.vpf_value.specs.Values.{Value, WordsOf, view}
use Rattle.vpf_value.specs.Reading.{CellAnswer, sized, counted_from, tuples_from, ReadsCell}
use Rattle.vpf_value.proofs.WordLists.{words_of-take}

-- enough bytes are left
pub sized-enough : (n : ℕ) (v : Value) (bytes : List ℕ) → n ≤ length bytes → sized n v bytes ≡ Ok (v, n)
unfolding sized
sized-enough n v bytes h = rw (le-ltb (length bytes) n h) refl

whole_words : (w : WordWidth) (m : ℕ) → word_bytes w * m / word_bytes w ≡ m
whole_words Four m = omega arith
whole_words Eight m = omega arith

-- the words in the bytes of `m` words are the first `m` words
words_in-take : (o : Order) (w : WordWidth) (m : ℕ) (bytes : List ℕ) → word_bytes w * m ≤ length bytes → words_in o w (take (word_bytes w * m) bytes) ≡ words_of o w m bytes
words_in-take o w m bytes h =
    let many : length (take (word_bytes w * m) bytes) / word_bytes w ≡ m = rw (length-take-le (word_bytes w * m) bytes h) (whole_words w m) in
    rw many (words_of-take o w m (word_bytes w * m) bytes (omega arith))

pub tuples_read : (o : Order) (w : WordWidth) (t : Tuple) (count at len : ℕ) (bytes rest : List ℕ) (width : WordWidth) (words : List ℕ)
    → len ≡ word_bytes w * (tuple_len t * count) → rest ≡ drop at bytes → len ≤ length rest → width ≡ w → words ≡ words_in o w (take len rest)
    → tuples_from o w t count (drop at bytes) ≡ Ok (WordsOf width words, at + len - at)
tuples_read o w t count at len bytes rest width words len_is rest_is enough width_is words_is =
    let m = tuple_len t * count in
    let fits : word_bytes w * m ≤ length rest = omega arith in
    let same : words ≡ words_of o w m rest = words_is ∙ rw (len_is) (words_in-take o w m rest fits) in
    let past : at + len - at ≡ word_bytes w * m = omega arith in
    rw (← rest_is, sized-enough (word_bytes w * m) (WordsOf w (words_of o w m rest)) rest fits, width_is, same, past) refl

-- the count is whole
pub counted-enough : (o : Order) (read : ℕ → List ℕ → CellAnswer) (bytes : List ℕ) → 4 ≤ length bytes → counted_from o read bytes ≡ (read (number_of o w32 bytes) (drop 4 bytes) >>= λ x. Ok (x.0, 4 + x.1))
unfolding counted_from
counted-enough o read bytes h = rw (le-ltb (length bytes) 4 h) refl

behind_count : (o : Order) (read : ℕ → List ℕ → CellAnswer) (bytes rest : List ℕ) (at count : ℕ) (answer : CellAnswer)
    → rest ≡ drop at bytes → 4 ≤ length rest → count ≡ number_of o w32 rest → read count (drop (at + 4) bytes) ≡ answer
    → counted_from o read (drop at bytes) ≡ (answer >>= λ x. Ok (x.0, 4 + x.1))
behind_count o read bytes rest at count answer rest_is enough count_is given =
    let count_there : number_of o w32 (drop at bytes) ≡ count = ap (number_of o w32) (sym rest_is) ∙ sym count_is in
    let enough_there : 4 ≤ length (drop at bytes) = omega (arith, enough, ap length rest_is) in
    counted-enough o read (drop at bytes) enough_there ∙ rw (count_there, drop-drop 4 at bytes, given) refl

pub counted_reads : (o : Order) (read : ℕ → List ℕ → CellAnswer) (bytes rest : List ℕ) (at count : ℕ) (inner outer : Result (Cell × ℕ) Place)
    → rest ≡ drop at bytes → 4 ≤ length rest → count ≡ number_of o w32 rest → ReadsCell (at + 4) inner (read count (drop (at + 4) bytes))
    → MatchResult inner (λ r. outer ≡ Ok r) (λ place. outer ≡ Err (fault at place.code))
    → ReadsCell at outer (counted_from o read (drop at bytes))
counted_reads o read bytes rest at count (Ok r) outer rest_is enough count_is given same =
    let past : 4 + (r.1 - (at + 4)) ≡ r.1 - at = omega (arith, given.0) in
    let read_is = behind_count o read bytes rest at count _ rest_is enough count_is given.1 in
    let answer : ReadsCell at (Ok r) (counted_from o read (drop at bytes)) = (omega (arith, given.0), read_is ∙ ap (λ (n : ℕ). Ok (view r.0, n)) past) in
    subst (λ (x : Result (Cell × ℕ) Place). ReadsCell at x (counted_from o read (drop at bytes))) (sym same) answer
counted_reads o read bytes rest at count (Err p) outer rest_is enough count_is given same =
    let read_is = behind_count o read bytes rest at count _ rest_is enough count_is given.0 in
    let answer : ReadsCell at (Err (fault at p.code)) (counted_from o read (drop at bytes)) = (read_is, refl) in
    subst (λ (x : Result (Cell × ℕ) Place). ReadsCell at x (counted_from o read (drop at bytes))) (sym same) answer
