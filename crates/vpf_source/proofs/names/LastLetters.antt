-- A name without its last character.
use Rattle.std.proofs.Common.{[], ◌≡◌, ℕ, ◌-◌, ◌≤◌, List, ◌∷◌, ◌++◌, length, Option, None, Some, refl, arith}
use Rattle.std.specs.Prelude.{IsUtf8, IfSome, IfNone, encode_utf8, chars}
use Rattle.std.specs.Char.{IsScalar}
use Rattle.std.proofs.lemmas.Str.{chars-nil}
use Rattle.vpf_source.specs.Names.Indexes.{without_last}
use Rattle.vpf_source.specs.Inner.Names.LetterLaws.{last_dropped}

pub named : (name front : List ℕ) (popped : Option ℕ) → IsUtf8 front → IfSome popped (λ c. IsScalar c) → IfSome popped (λ c. name ≡ front ++ encode_utf8 c) → IfNone popped (length name ≡ 0) → length front ≤ length name → without_last name ≡ front
named name front (Some c) u s e none short = rw e (last_dropped front c u s)
named [] [] None u s e none short = rw chars-nil refl
named [] (b ∷ bs) None u s e none short = absurd (omega arith)
named (b ∷ bs) front None u s e none short = absurd (omega (arith, none))
