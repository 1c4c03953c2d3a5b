-- Steps that may fail, one after another, and what a call answers against what it ought to.
use Rattle.std.specs.Prelude.{◌≡◌, Option, Some, None, Result, Ok, Err}

-- first one thing and then another; the first error ends it
infixl 10 ◌>>=◌
abbrev pub ◌>>=◌ : {A B E : Type 0} → Result A E → (A → Result B E) → Result B E
(Ok x) >>= next = next x
(Err e) >>= next = Err e

-- what a step ought to have answered is the error that is seen; where nothing is seen, as of want of memory, nothing is said
abbrev pub Told : {W F : Type 0} → Option F → Result W F → Type 0
Told None ought = Unit {0}
Told (Some f) ought = ought ≡ Err f

-- a call answered what it ought to: the value as it is seen, or the error as it is seen; an error of which nothing is seen says nothing
abbrev pub Meets : {V W E F : Type 0} → (V → W) → (E → Option F) → Result V E → Result W F → Type 0
Meets value error (Ok v) ought = ought ≡ Ok (value v)
Meets value error (Err e) ought = Told (error e) ought
