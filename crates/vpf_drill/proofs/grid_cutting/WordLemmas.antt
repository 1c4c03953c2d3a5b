-- The words of the request are text.
use Rattle.std.proofs.Common.{◌≡◌, ℕ, zero, suc, Bool, true, List, [], ◌∷◌, codes, refl, arith}
use Rattle.std.specs.Prelude.{IsUtf8, nat_lt}
use Rattle.std.specs.List.{AllByRecursion, list_all}
use Rattle.std.specs.Str.{IsAscii}
use Rattle.std.proofs.lemmas.Bool.Decides.{nat_tests}
use Rattle.std.proofs.lemmas.Str.{IsUtf8-from_ascii}
use Rattle.vpf_base.proofs.Booleans.{both}
use Rattle.vpf_drill.specs.GridCutting.Reading.{grid_words}

-- what passes a test of letters of ASCII
abbrev pub is_low : ℕ → Bool
is_low b = nat_lt b 128

pub ascii_tested : (bs : List ℕ) → list_all is_low bs ≡ true → IsAscii bs
ascii_tested [] h i = omega arith
ascii_tested (b ∷ bs) h zero =
    let p = both (is_low b) (list_all is_low bs) h in let low : nat_lt b 128 ≡ true = p.0 in grind (arith, nat_tests)
ascii_tested (b ∷ bs) h (suc i) = ascii_tested bs (both (is_low b) (list_all is_low bs) h).1 i

-- is text
pub text_tested : (bs : List ℕ) → list_all is_low bs ≡ true → IsUtf8 bs
text_tested bs h = IsUtf8-from_ascii bs (ascii_tested bs h)

pub words_are_text : AllByRecursion IsUtf8 grid_words
words_are_text = (text_tested (codes "grid") refl, (text_tested (codes "g") refl, (text_tested (codes "out") refl, tt)))
