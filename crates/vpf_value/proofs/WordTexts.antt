-- Words one after another: what is read of them is spelled so, and what is spelled so is read.
use Rattle.std.specs.Prelude.{[], All}
use Rattle.std.proofs.Common.{◌≡◌, ℕ, zero, suc, ◌+◌, ◌*◌, ◌<◌, ◌≤◌, List, ◌∷◌, ◌++◌, length, get_or, drop, take, refl, ap, ◌∙◌, append_assoc, take-add, add-one, drop-cons, arith}
use Rattle.std.proofs.lemmas.List.{length-append, length-drop, drop_at, drop_all}
use Rattle.vpf_base.proofs.ByteLists.{IsBytes-drop}
use Rattle.vpf_triplet.specs.Bytes.{IsBytes}
use Rattle.vpf_base.specs.declared.orders.Order.{Order}
use Rattle.vpf_base.specs.Numbers.{number}
use Rattle.vpf_value.specs.declared.coords.WordWidth.{WordWidth}
use Rattle.vpf_value.specs.declared.coords.WordWidth.TheVariants.{Four, Eight}
use Rattle.vpf_value.specs.Words.{word_bytes, word_limit, number_width, words_of, spelled_words}
use Rattle.vpf_value.specs.Inner.NumberLaws.{length-number, number_of-number, number-number_of}

times_suc : (w : WordWidth) (n : ℕ) → word_bytes w * suc n ≡ word_bytes w + word_bytes w * n
times_suc Four n = omega arith
times_suc Eight n = omega arith

pub length-word_text : (o : Order) (w : WordWidth) (words : List ℕ) → length (spelled_words o w words) ≡ word_bytes w * length words
unfolding spelled_words
length-word_text o Four [] = refl
length-word_text o Eight [] = refl
length-word_text o w (n ∷ ns) = length-append (number o (number_width w) n) (spelled_words o w ns) ∙ rw (length-number o w n, length-word_text o w ns, times_suc w (length ns)) refl

-- words that are spelled are read, whatever follows
pub words_of-word_text : (o : Order) (w : WordWidth) (words rest : List ℕ) → All (λ word. word < word_limit w) words → words_of o w (length words) (spelled_words o w words ++ rest) ≡ words
unfolding spelled_words words_of
words_of-word_text o w [] rest small = refl
words_of-word_text o w (n ∷ ns) rest small =
    let front = number o (number_width w) n in
    let back = spelled_words o w ns ++ rest in
    let regrouped : (front ++ spelled_words o w ns) ++ rest ≡ front ++ back = append_assoc front (spelled_words o w ns) rest in
    let first = number_of-number o w n back (small 0 0 (omega arith)) in
    let behind : drop (word_bytes w) (front ++ back) ≡ back = drop_at front back (word_bytes w) (length-number o w n) in
    let others = words_of-word_text o w ns rest (λ k d h. small (suc k) d (omega arith)) in
    rw (regrouped, first, behind, others) refl

-- words that are read are spelled so
pub word_text-words_of : (o : Order) (w : WordWidth) (n : ℕ) (bytes : List ℕ) → IsBytes bytes → word_bytes w * n ≤ length bytes → spelled_words o w (words_of o w n bytes) ≡ take (word_bytes w * n) bytes
unfolding spelled_words words_of
word_text-words_of o Four zero bytes fits h = refl
word_text-words_of o Eight zero bytes fits h = refl
word_text-words_of o w (suc n) bytes fits h =
    let many = times_suc w n in
    let first = number-number_of o w bytes fits (omega arith) in
    let others = word_text-words_of o w n (drop (word_bytes w) bytes) (IsBytes-drop (word_bytes w) bytes fits) (omega (arith, length-drop (word_bytes w) bytes)) in
    rw (many, first, others, take-add (word_bytes w) (word_bytes w * n) bytes) refl

-- the words from one on, and the spelling of that one
pub word_text-drop : (o : Order) (w : WordWidth) (words : List ℕ) (i : ℕ) → i < length words → spelled_words o w (drop i words) ≡ number o (number_width w) (get_or words i 0) ++ spelled_words o w (drop (i + 1) words)
unfolding spelled_words
word_text-drop o w words i h = rw (add-one, drop-cons words i 0) refl

pub word_text-end : (o : Order) (w : WordWidth) (words : List ℕ) (i : ℕ) → length words ≤ i → spelled_words o w (drop i words) ≡ []
unfolding spelled_words
word_text-end o w words i h = ap (spelled_words o w) (drop_all i words h)
