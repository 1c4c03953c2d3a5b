-- The text of words, one more at a time.
use Rattle.std.proofs.Common.{◌≡◌, ℕ, suc, ◌+◌, ◌<◌, List, [], ◌∷◌, ◌++◌, length, take, get_or, append_assoc, refl, sym, arith}
use Rattle.std.proofs.lemmas.List.{append-nil, length-take-le, take_more}
use Rattle.vpf_value.specs.declared.coords.WordWidth.{WordWidth}
use Rattle.vpf_findings.specs.Text.Cells.{separator, word_text, words_text}

pub words_text-append : (len : ℕ) (width : WordWidth) (k : ℕ) (words : List ℕ) (word : ℕ) → words_text len width k (words ++ word ∷ []) ≡ words_text len width k words ++ (separator len (k + length words) ++ word_text width word)
words_text-append len width k [] word = let z : k + 0 ≡ k = omega arith in rw (z, append-nil) refl
words_text-append len width k (x ∷ words) word =
    let z : k + suc (length words) ≡ suc k + length words = omega arith in
    rw (z, words_text-append len width (suc k) words word, append_assoc, append_assoc) refl

pub words_more : (len : ℕ) (width : WordWidth) (words : List ℕ) (i word : ℕ) (before : List ℕ) → i < length words → word ≡ get_or words i 0 → before ≡ separator len i → words_text len width 0 (take i words) ++ (before ++ word_text width word) ≡ words_text len width 0 (take (i + 1) words)
words_more len width words i word before h is sep =
    let z : 0 + length (take i words) ≡ i = omega (arith, length-take-le i words (omega arith)) in
    let e = words_text-append len width 0 (take i words) (get_or words i 0) in
    rw (take_more words i 0 h, is, sep) (sym (rw z at e))
