-- A name without its last character.
use Rattle.std.proofs.Common.{[], ◌≡◌, ℕ, ◌-◌, true, List, ◌∷◌, ◌++◌, length, refl, sym, ap, ◌∙◌, arith, append-nil}
use Rattle.std.specs.Prelude.{IsUtf8, encode_utf8, encode_utf8_all, chars}
use Rattle.std.specs.Char.{IsScalar}
use Rattle.std.specs.Str.{all_scalars}
use lib.Utf8.{scalar}
use Rattle.std.proofs.lemmas.Str.{chars-encodes, encodes-append}
use Rattle.std.proofs.lemmas.List.{length-append, take_at}
use Rattle.vpf_base.proofs.Booleans.{both}
use Rattle.vpf_source.specs.Names.Indexes.{without_last}

scalars_behind : (cs : List ℕ) (c : ℕ) → all_scalars cs ≡ true → IsScalar c → all_scalars (cs ++ c ∷ []) ≡ true
scalars_behind [] c h s = rw s refl
scalars_behind (d ∷ cs) c h s = let k = both (scalar d) (all_scalars cs) h in rw (k.0, scalars_behind cs c k.1 s) refl

pub last_dropped : (front : List ℕ) (c : ℕ) → IsUtf8 front → IsScalar c → without_last (front ++ encode_utf8 c) ≡ front
last_dropped front c u s =
    let cs = u.0 in
    let text : encode_utf8_all (cs ++ c ∷ []) ≡ front ++ encode_utf8 c = encodes-append cs (c ∷ []) ∙ rw (u.1.1, append-nil (encode_utf8 c)) refl in
    let letters : chars (front ++ encode_utf8 c) ≡ cs ++ c ∷ [] = ap chars (sym text) ∙ chars-encodes (cs ++ c ∷ []) (scalars_behind cs c u.1.0 s) in
    let few : length (cs ++ c ∷ []) - 1 ≡ length cs = omega (arith, length-append cs (c ∷ [])) in
    rw (letters, few, take_at cs (c ∷ []) (length cs) refl) u.1.1
