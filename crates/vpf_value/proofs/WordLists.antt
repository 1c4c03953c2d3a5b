-- Lists of words: how many there are, each by its place, their bound, and that bytes behind them do not matter.
use Rattle.std.specs.Prelude.{All}
use Rattle.std.proofs.Common.{◌≡◌, ℕ, zero, suc, ◌+◌, ◌-◌, ◌*◌, ◌<◌, ◌≤◌, List, length, get_or, drop, take, refl, sym, ap, ◌∙◌, arith}
use Rattle.std.proofs.lemmas.List.{drop-drop, drop-take}
use Rattle.vpf_base.proofs.ByteLists.{IsBytes-drop}
use Rattle.vpf_triplet.specs.Bytes.{IsBytes}
use Rattle.vpf_base.specs.declared.orders.Order.{Order}
use Rattle.vpf_base.specs.Numbers.{number_of}
use Rattle.vpf_value.specs.declared.coords.WordWidth.{WordWidth}
use Rattle.vpf_value.specs.declared.coords.WordWidth.TheVariants.{Four, Eight}
use Rattle.vpf_value.specs.Words.{word_bytes, word_limit, number_width, words_of}
use Rattle.vpf_value.specs.Inner.NumberLaws.{number_of-take, number_of_below}

pub length-words_of : (o : Order) (w : WordWidth) (n : ℕ) (bytes : List ℕ) → length (words_of o w n bytes) ≡ n
unfolding words_of
length-words_of o w zero bytes = refl
length-words_of o w (suc n) bytes = ap suc (length-words_of o w n (drop (word_bytes w) bytes))

pub get_or-words_of : (o : Order) (w : WordWidth) (n : ℕ) (bytes : List ℕ) (i : ℕ) → i < n → get_or (words_of o w n bytes) i 0 ≡ number_of o (number_width w) (drop (word_bytes w * i) bytes)
unfolding words_of
get_or-words_of o w zero bytes i h = absurd (omega arith)
get_or-words_of o Four (suc n) bytes zero h = refl
get_or-words_of o Eight (suc n) bytes zero h = refl
get_or-words_of o Four (suc n) bytes (suc i) h =
    let e : 4 * suc i ≡ 4 + 4 * i = omega arith in
    get_or-words_of o Four n (drop 4 bytes) i (omega arith) ∙ ap (number_of o (number_width Four)) (drop-drop (4 * i) 4 bytes ∙ sym (ap (λ (k : ℕ). drop k bytes) e))
get_or-words_of o Eight (suc n) bytes (suc i) h =
    let e : 8 * suc i ≡ 8 + 8 * i = omega arith in
    get_or-words_of o Eight n (drop 8 bytes) i (omega arith) ∙ ap (number_of o (number_width Eight)) (drop-drop (8 * i) 8 bytes ∙ sym (ap (λ (k : ℕ). drop k bytes) e))

drop-take_past : (j k : ℕ) (bytes : List ℕ) → j ≤ k → drop j (take k bytes) ≡ take (k - j) (drop j bytes)
drop-take_past j k bytes h =
    let e : k ≡ j + (k - j) = omega arith in
    ap (λ (n : ℕ). drop j (take n bytes)) e ∙ drop-take j (k - j) bytes

-- words that lie in the first `k` bytes are the same without the bytes behind
pub words_of-take : (o : Order) (w : WordWidth) (n k : ℕ) (bytes : List ℕ) → word_bytes w * n ≤ k → words_of o w n (take k bytes) ≡ words_of o w n bytes
unfolding words_of
words_of-take o w zero k bytes h = refl
words_of-take o Four (suc n) k bytes h =
    let first = number_of-take o Four k bytes (omega arith) in
    let rest = words_of-take o Four n (k - 4) (drop 4 bytes) (omega arith) in
    rw (first, drop-take_past 4 k bytes (omega arith), rest) refl
words_of-take o Eight (suc n) k bytes h =
    let first = number_of-take o Eight k bytes (omega arith) in
    let rest = words_of-take o Eight n (k - 8) (drop 8 bytes) (omega arith) in
    rw (first, drop-take_past 8 k bytes (omega arith), rest) refl

-- all words are below their limit
pub words_of_below : (o : Order) (w : WordWidth) (n : ℕ) (bytes : List ℕ) → IsBytes bytes → All (λ word. word < word_limit w) (words_of o w n bytes)
unfolding words_of
words_of_below o w zero bytes fits k d h = absurd (omega arith)
words_of_below o w (suc n) bytes fits zero d h = number_of_below o w bytes fits
words_of_below o w (suc n) bytes fits (suc k) d h = words_of_below o w n (drop (word_bytes w) bytes) (IsBytes-drop (word_bytes w) bytes fits) k d (omega arith)
