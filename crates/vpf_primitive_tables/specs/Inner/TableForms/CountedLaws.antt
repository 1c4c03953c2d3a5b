-- Rows that are made and put one after another.
use Rattle.std.proofs.Common.{[], ◌≡◌, ℕ, zero, suc, ◌+◌, ◌<◌, ◌≤◌, List, ◌∷◌, ◌++◌, length, map, take, get_or, refl, sym, ap, subst, arith}
use Rattle.std.proofs.lemmas.List.{take_all}
use Rattle.vpf_table.specs.Grid.{Row}
use Rattle.vpf_write.specs.Inner.Tallies.{Tally, Holds}
use Rattle.vpf_tiling.specs.Ranks.{numbered, numbered_from}

-- one more item makes one more row
from_more : (X R : Type 0) (n : ℕ) (f : ℕ → X → R) (xs : List X) (k : ℕ) (d : X) → k < length xs
    → numbered_from n f (take (suc k) xs) ≡ numbered_from n f (take k xs) ++ f (n + k) (get_or xs k d) ∷ []
from_more X R n f [] k d h = absurd (omega arith)
from_more X R n f (x ∷ xs) zero d h = let e : n + 0 ≡ n = omega arith in rw e refl
from_more X R n f (x ∷ xs) (suc k) d h =
    let e : n + suc k ≡ suc n + k = omega arith in
    let rest = from_more X R (suc n) f xs k d (omega arith) in
    rw e (ap (λ (rows : List R). f n x ∷ rows) rest)

-- with the row of one more item they are those of the items so far
pub put_more : {X : Type 0} (w v : Tally) (f : ℕ → X → Row) (xs : List X) (k : ℕ) (d : X) → k < length xs
    → ((rows : List Row) → Holds w rows → Holds v (rows ++ f (k + 1) (get_or xs k d) ∷ [])) → Holds w (numbered f (take k xs)) → Holds v (numbered f (take (k + 1) xs))
put_more {X} w v f xs k d h put done =
    let e : 1 + k ≡ k + 1 = omega arith in
    let s : suc k ≡ k + 1 = omega arith in
    let more = rw (e, s) at (from_more X Row 1 f xs k d h) in
    subst (Holds v) (sym more) (put (numbered f (take k xs)) done)

-- all rows are put
pub put_all : {X : Type 0} (w : Tally) (f : ℕ → X → Row) (xs : List X) (k : ℕ) → length xs ≤ k → Holds w (numbered f (take k xs)) → Holds w (numbered f xs)
put_all w f xs k h done = rw (take_all k xs h) at done

-- what is made of items of items
from_map : (X Y R : Type 0) (n : ℕ) (f : ℕ → Y → R) (g : X → Y) (xs : List X) → numbered_from n f (map g xs) ≡ numbered_from n (λ k x. f k (g x)) xs
from_map X Y R n f g [] = refl
from_map X Y R n f g (x ∷ xs) = ap (λ (rows : List R). f n (g x) ∷ rows) (from_map X Y R (suc n) f g xs)

pub numbered-map : {X Y R : Type 0} (f : ℕ → Y → R) (g : X → Y) (xs : List X) → numbered f (map g xs) ≡ numbered (λ k x. f k (g x)) xs
numbered-map {X} {Y} {R} f g xs = from_map X Y R 1 f g xs

-- there are as many
from_length : (X R : Type 0) (n : ℕ) (f : ℕ → X → R) (xs : List X) → length (numbered_from n f xs) ≡ length xs
from_length X R n f [] = refl
from_length X R n f (x ∷ xs) = ap suc (from_length X R (suc n) f xs)

pub length-numbered : {X R : Type 0} (f : ℕ → X → R) (xs : List X) → length (numbered f xs) ≡ length xs
length-numbered {X} {R} f xs = from_length X R 1 f xs
