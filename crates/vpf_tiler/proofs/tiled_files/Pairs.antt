-- Lists whose members are apart from each other, and what is so of all members of lists that are joined.
use Rattle.std.proofs.Common.{[], ◌<◌, ℕ, suc, zero, ◌+◌, List, ◌∷◌, arith}
use Rattle.std.specs.Prelude.{AllPairs, flat_map}
use Rattle.std.specs.List.{AllByRecursion, range_with_len}
use Rattle.std.proofs.lemmas.List.Elements.{All-from_recursion, All-get_or}
use Rattle.vpf_tiler.specs.Inner.TiledFiles.PairLaws.{Apart, apart_both, all_weaker}
use Rattle.vpf_base.proofs.Lists.{all_joined as all_both}

-- so any two are
pub pairs_apart : {X : Type 0} (R : X → X → Type 0) (xs : List X) → Apart R xs → AllPairs R xs
pairs_apart R [] a i j d h l = absurd (omega (arith, l))
pairs_apart R (x ∷ xs) a i zero d h l = absurd (omega (arith, h))
pairs_apart R (x ∷ xs) a zero (suc j) d h l = All-get_or (R x) xs j d (omega (arith, l)) (All-from_recursion (R x) xs a.0)
pairs_apart R (x ∷ xs) a (suc i) (suc j) d h l = pairs_apart R xs a.1 i j d (omega (arith, h)) (omega (arith, l))

-- ---- all members

-- ---- lists that are joined

-- the lists of rising numbers, whose members are apart by what is so of those of each number
pub apart_lists : {X : Type 0} (R : X → X → Type 0) (Q : ℕ → X → Type 0) (f : ℕ → List X) → ((n : ℕ) → AllByRecursion (Q n) (f n))
    → ((n : ℕ) → Apart R (f n)) → ((m n : ℕ) (x y : X) → m < n → Q m x → Q n y → R x y) → (from many : ℕ)
    → Apart R (flat_map f (range_with_len from many))
apart_lists R Q f each own far from zero = tt
apart_lists R Q f each own far from (suc many) =
    apart_both R (f from) (flat_map f (range_with_len (from + 1) many)) (own from) (apart_lists R Q f each own far (from + 1) many)
    (all_weaker (Q from) (λ x. AllByRecursion (R x) (flat_map f (range_with_len (from + 1) many)))
    (λ x q. later R Q f each far from x q (from + 1) many (omega arith)) (f from) (each from))
  where
    later : {X : Type 0} (R : X → X → Type 0) (Q : ℕ → X → Type 0) (f : ℕ → List X) → ((n : ℕ) → AllByRecursion (Q n) (f n))
        → ((m n : ℕ) (x y : X) → m < n → Q m x → Q n y → R x y) → (m : ℕ) (x : X) → Q m x → (from many : ℕ) → m < from
        → AllByRecursion (R x) (flat_map f (range_with_len from many))
    later R Q f each far m x q from zero h = tt
    later R Q f each far m x q from (suc many) h =
        all_both (R x) (f from) (flat_map f (range_with_len (from + 1) many))
        (all_weaker (Q from) (R x) (λ y. far m from x y h q) (f from) (each from)) (later R Q f each far m x q (from + 1) many (omega (arith, h)))

-- ---- members that are made of others
