-- Filtered lists.
use Rattle.std.proofs.Common.{◌≡◌, Bool, true, false, cond, List, [], ◌∷◌, map, refl, ap}
use Rattle.std.specs.Prelude.{filter}

kept : {A B : Type 0} (f : A → B) (x : A) (xs : List A) (ys : List B) (b : Bool) → map f xs ≡ ys → map f (cond b (x ∷ xs) xs) ≡ cond b (f x ∷ ys) ys
kept f x xs ys true e = ap (λ rest. f x ∷ rest) e
kept f x xs ys false e = e

-- a test of what each element is mapped to may come before or after the map
pub map-filter : {A B : Type 0} (f : A → B) (p : B → Bool) (xs : List A) → map f (filter (λ x. p (f x)) xs) ≡ filter p (map f xs)
map-filter f p [] = refl
map-filter f p (x ∷ xs) = kept f x (filter (λ y. p (f y)) xs) (filter p (map f xs)) (p (f x)) (map-filter f p xs)
