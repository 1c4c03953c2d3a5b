-- Lists whose elements are changed by their positions.
use Rattle.std.proofs.Common.{[], ◌≡◌, ℕ, zero, suc, ◌+◌, ◌<◌, List, ◌∷◌, length, map, get_or, ap, arith}
use Rattle.std.specs.List.{enumerate_from}

-- the element at a position
pub get_or_each : {X Y : Type 0} (f : ℕ × X → Y) (n m i : ℕ) (xs : List X) (d : X) (e : Y) → m ≡ n + i → i < length xs
    → get_or (map f (enumerate_from n xs)) i e ≡ f (m, get_or xs i d)
get_or_each f n m i [] d e is h = absurd (omega arith)
get_or_each f n m zero (x ∷ xs) d e is h = ap (λ k. f (k, x)) (let k : n ≡ m = omega arith in k)
get_or_each f n m (suc i) (x ∷ xs) d e is h = get_or_each f (n + 1) m i xs d e (omega arith) (omega arith)
