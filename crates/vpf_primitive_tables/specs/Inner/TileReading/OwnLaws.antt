-- Columns whose names are apart stand where their names do.
use Rattle.std.proofs.Common.{[], Bool, true, false, cond, List, ◌∷◌, filter}
use Rattle.std.specs.List.{AllByRecursion}

-- one element more, which passes or not
kept_one : {X : Type 0} (Q : X → Type 0) (b : Bool) (x : X) (xs : List X) → Q x → AllByRecursion Q xs → AllByRecursion Q (cond b (x ∷ xs) xs)
kept_one Q true x xs q h = (q, h)
kept_one Q false x xs q h = h

-- what holds of all holds of those that pass a test
pub all_passing : {X : Type 0} (Q : X → Type 0) (p : X → Bool) (xs : List X) → AllByRecursion Q xs → AllByRecursion Q (filter p xs)
all_passing Q p [] h = tt
all_passing Q p (x ∷ xs) h = kept_one Q (p x) x (filter p xs) h.0 (all_passing Q p xs h.1)
