-- Lists whose members are apart from each other, and what is so of all members of lists that are joined.
use Rattle.std.proofs.Common.{[], ℕ, List, ◌∷◌, ◌++◌, map}
use Rattle.std.specs.Prelude.{flat_map}
use Rattle.std.specs.List.{AllByRecursion}
use Rattle.vpf_base.proofs.Lists.{all_joined as all_both}

-- each member is apart from all behind it
abbrev pub Apart : {X : Type 0} → (X → X → Type 0) → List X → Type 0
Apart R [] = Unit {0}
Apart R (x ∷ xs) = AllByRecursion (R x) xs × Apart R xs

pub all_weaker : {X : Type 0} (P Q : X → Type 0) → ((x : X) → P x → Q x) → (xs : List X) → AllByRecursion P xs → AllByRecursion Q xs
all_weaker P Q w [] h = tt
all_weaker P Q w (x ∷ xs) h = (w x h.0, all_weaker P Q w xs h.1)

-- all members of the lists that numbers have
pub all_of_lists : {X : Type 0} (P : X → Type 0) (f : ℕ → List X) → ((n : ℕ) → AllByRecursion P (f n)) → (ns : List ℕ) → AllByRecursion P (flat_map f ns)
all_of_lists P f each [] = tt
all_of_lists P f each (n ∷ ns) = all_both P (f n) (flat_map f ns) (each n) (all_of_lists P f each ns)

-- two lists
pub apart_both : {X : Type 0} (R : X → X → Type 0) (xs ys : List X) → Apart R xs → Apart R ys → AllByRecursion (λ x. AllByRecursion (R x) ys) xs
    → Apart R (xs ++ ys)
apart_both R [] ys a b between = b
apart_both R (x ∷ xs) ys a b between = (all_both (R x) xs ys a.0 between.0, apart_both R xs ys a.1 b between.1)

pub apart_made : {X Y : Type 0} (R : X → X → Type 0) (S : Y → Y → Type 0) (f : X → Y) → ((a b : X) → R a b → S (f a) (f b)) → (xs : List X) → Apart R xs
    → Apart S (map f xs)
apart_made R S f keeps [] a = tt
apart_made R S f keeps (x ∷ xs) a = (all_made (R x) (S (f x)) f (keeps x) xs a.0, apart_made R S f keeps xs a.1)
  where
    all_made : {X Y : Type 0} (P : X → Type 0) (Q : Y → Type 0) (f : X → Y) → ((x : X) → P x → Q (f x)) → (xs : List X) → AllByRecursion P xs
        → AllByRecursion Q (map f xs)
    all_made P Q f keeps [] h = tt
    all_made P Q f keeps (x ∷ xs) h = (keeps x h.0, all_made P Q f keeps xs h.1)
