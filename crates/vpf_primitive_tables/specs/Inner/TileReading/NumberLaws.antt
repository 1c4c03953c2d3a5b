-- Rows with their numbers, made of the rows of other tables; and numbers of rows that are there.
use Rattle.std.proofs.Common.{[], ◌≡◌, ℕ, zero, suc, ◌<◌, List, ◌∷◌, length, map, get_or, refl, arith}
use Rattle.std.specs.List.{AllByRecursion}
use Rattle.std.proofs.lemmas.List.{get_or-map}
use Rattle.vpf_prims.specs.Lists.{kth}
use Rattle.vpf_prims.specs.Numbering.{IsRowOf}
use Rattle.vpf_tiling.specs.Ranks.{numbered_from}

-- what is read of rows that are made of a number and of an item, each of which has a property
pub read_numbered : {X Y R : Type 0} (P : X → Type 0) (read : Y → R) (row : ℕ → X → Y) (said : ℕ → X → R)
    → ((k : ℕ) (x : X) → P x → read (row k x) ≡ said k x) → (k : ℕ) (xs : List X) → AllByRecursion P xs
    → map read (numbered_from k row xs) ≡ numbered_from k said xs
read_numbered P read row said each k [] all = refl
read_numbered P read row said each k (x ∷ xs) all = λ i. (each k x all.0 i ∷ read_numbered P read row said each (suc k) xs all.1 i)

-- what is read of a row
pub kth_map : {X Y : Type 0} (f : X → Y) (xs : List X) (k : ℕ) (d : X) (e : Y) → IsRowOf (length xs) k → kth (map f xs) k e ≡ f (kth xs k d)
kth_map f xs zero d e r = absurd (let a = r.0 in omega arith)
kth_map f xs (suc k) d e r = (let b = r.1 in get_or-map f xs k d e (omega arith))

-- what holds of all elements holds of one by its place
all_at : {X : Type 0} (P : X → Type 0) (xs : List X) (k : ℕ) (d : X) → AllByRecursion P xs → k < length xs → P (get_or xs k d)
all_at P [] k d all h = absurd (omega arith)
all_at P (x ∷ xs) zero d all h = all.0
all_at P (x ∷ xs) (suc k) d all h = all_at P xs k d all.1 (omega arith)

-- what holds of all rows holds of one by its number
pub kth_has : {X : Type 0} (P : X → Type 0) (xs : List X) (k : ℕ) (d : X) → AllByRecursion P xs → IsRowOf (length xs) k → P (kth xs k d)
kth_has P xs zero d all r = absurd (let a = r.0 in omega arith)
kth_has P xs (suc k) d all r = (let b = r.1 in all_at P xs k d all (omega arith))
