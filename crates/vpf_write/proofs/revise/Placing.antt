-- Lists whose elements are changed by their positions.
use Rattle.std.proofs.Common.{[], ◌≡◌, ◌≢◌, ℕ, zero, suc, ◌+◌, ◌≤◌, List, ◌∷◌, length, map, Option, Some, None, refl, arith}
use Rattle.std.specs.List.{enumerate_from, slice_get}
use Rattle.std.specs.Option.{option_map}
use Rattle.std.proofs.Math.ListN.{set}
use Rattle.std.proofs.lemmas.Grind.{common_steps}

-- how many there are
pub length-each : {X Y : Type 0} (f : ℕ × X → Y) (n : ℕ) (xs : List X) → length (map f (enumerate_from n xs)) ≡ length xs
length-each f n [] = refl
length-each f n (x ∷ xs) = grind (arith, length-each f (n + 1) xs)

-- the element at a position
pub slice_get-each : {X Y : Type 0} (f : ℕ × X → Y) (n m i : ℕ) (xs : List X) → m ≡ n + i
    → slice_get (map f (enumerate_from n xs)) i ≡ option_map (λ x. f (m, x)) (slice_get xs i)
slice_get-each f n m i [] e = refl
slice_get-each f n m zero (x ∷ xs) e = grind (arith, common_steps)
slice_get-each f n m (suc i) (x ∷ xs) e = slice_get-each f (n + 1) m i xs (omega arith)

-- two changes that agree from the first position on
pub each_same : {X Y : Type 0} (f g : ℕ × X → Y) (n : ℕ) (xs : List X) → ((c : ℕ) (x : X) → n ≤ c → f (c, x) ≡ g (c, x))
    → map f (enumerate_from n xs) ≡ map g (enumerate_from n xs)
each_same f g n [] e = refl
each_same f g n (x ∷ xs) e =
    let first = e n x (omega arith) in
    let others = each_same f g (n + 1) xs (λ c y le. e c y (omega arith)) in
    cc

-- two changes that agree but for one position, where the other element stands
pub each_set : {X Y : Type 0} (f g : ℕ × X → Y) (n m k : ℕ) (xs : List X) (y : X) → m ≡ n + k → ((c : ℕ) (x : X) → c ≢ m → f (c, x) ≡ g (c, x))
    → ((x : X) → f (m, x) ≡ g (m, y)) → map f (enumerate_from n xs) ≡ map g (enumerate_from n (set xs k y))
each_set f g n m k [] y e others one = refl
each_set f g n m zero (x ∷ xs) y e others one =
    let here : m ≡ n = omega arith in
    let first = one x in
    let rest = each_same f g (n + 1) xs (λ c z le. others c z (omega arith)) in
    cc
each_set f g n m (suc k) (x ∷ xs) y e others one =
    let first = others n x (omega arith) in
    let rest = each_set f g (n + 1) m k xs y (omega arith) others one in
    cc

-- a change that leaves each element as it is
pub each_own : {X : Type 0} (f : ℕ × X → X) (n : ℕ) (xs : List X) → ((c : ℕ) (x : X) → f (c, x) ≡ x) → map f (enumerate_from n xs) ≡ xs
each_own f n [] e = refl
each_own f n (x ∷ xs) e =
    let first = e n x in
    let rest = each_own f (n + 1) xs e in
    cc

-- the value before a change
pub before_map : {X Y : Type 0} (f : X → Y) (o : Option X) (y : Y) → option_map f o ≡ Some y → (x : X) × (o ≡ Some x) × (f x ≡ y)
before_map f None y e = cc
before_map f (Some x) y e = (x, refl, cc)
