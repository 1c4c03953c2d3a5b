-- Lists whose elements are changed by their positions.
use Rattle.std.proofs.Common.{[], ◌≡◌, ℕ, zero, suc, ◌+◌, List, ◌∷◌, map, slice_get, Some, refl, ap, arith}
use Rattle.std.specs.List.{enumerate_from}
use Rattle.std.specs.Option.{option_map}

-- the same where there may be none
pub slice_get_each : {X Y : Type 0} (f : ℕ × X → Y) (n m i : ℕ) (xs : List X) → m ≡ n + i
    → slice_get (map f (enumerate_from n xs)) i ≡ option_map (λ x. f (m, x)) (slice_get xs i)
slice_get_each f n m i [] is = refl
slice_get_each f n m zero (x ∷ xs) is = ap (λ k. Some (f (k, x))) (let k : n ≡ m = omega arith in k)
slice_get_each f n m (suc i) (x ∷ xs) is = slice_get_each f (n + 1) m i xs (omega arith)
