-- Lists of rows: what is made of rows by their ranks, and of the rows that pass a test.
use Rattle.std.proofs.Common.{[], ◌≡◌, refl, ap, List, ◌∷◌, map}

pub map_twice : {X Y Z : Type 0} → (g : Y → Z) (f : X → Y) → (xs : List X) → map g (map f xs) ≡ map (λ x. g (f x)) xs
map_twice g f [] = refl
map_twice g f (x ∷ xs) = ap (λ z. g (f x) ∷ z) (map_twice g f xs)
