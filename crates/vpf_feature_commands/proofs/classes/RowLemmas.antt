-- Rows of a schema table that are kept.
use Rattle.std.proofs.Common.{◌≡◌, Bool, true, false, List, [], ◌∷◌, map, refl, ap}
use Rattle.std.specs.Prelude.{filter, cond}

-- an element that is kept is kept as it is seen
kept : {A B : Type 0} (view : A → B) (x : A) (xs : List A) (ys : List B) (is : Bool) → map view xs ≡ ys
    → map view (cond is (x ∷ xs) xs) ≡ cond is (view x ∷ ys) ys
kept view x xs ys true e = ap (λ (zs : List _). view x ∷ zs) e
kept view x xs ys false e = e

-- elements are kept as they are seen
pub kept_seen : {A B : Type 0} (view : A → B) (keep : B → Bool) (xs : List A) → map view (filter (λ x. keep (view x)) xs) ≡ filter keep (map view xs)
kept_seen view keep [] = refl
kept_seen view keep (x ∷ xs) = kept view x (filter (λ y. keep (view y)) xs) (filter keep (map view xs)) (keep (view x)) (kept_seen view keep xs)
