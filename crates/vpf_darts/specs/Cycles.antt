-- Cycles of darts under a function `next`, and the listing of them.
use Rattle.std.specs.Prelude.{◌≡◌, ℕ, ◌+◌, ◌<◌, Bool, if◌then◌else◌, ◌==◌, List, [], ◌∷◌, ◌++◌, map}
use Rattle.std.specs.List.{concat, AllByRecursion}

-- how often a dart stands in a list
abbrev pub count_of : ℕ → List ℕ → ℕ
count_of dart [] = 0
count_of dart (x ∷ xs) = (if x == dart then 1 else 0) + count_of dart xs

-- a cycle of a permutation, written out: the nexts of its darts are the list turned by one place
abbrev pub IsCycle : (ℕ → ℕ) → List ℕ → Type 0
IsCycle next [] = ⊥
IsCycle next (x ∷ xs) = map next (x ∷ xs) ≡ xs ++ x ∷ []

-- each list is a cycle, and each live dart stands in them once, and no other
pub record AreCycles (next : ℕ → ℕ) (live : ℕ → Bool) (lists : List (List ℕ)) : Type 0 where
  pub cycles : AllByRecursion (IsCycle next) lists
  pub once : (dart : ℕ) → count_of dart (concat lists) ≡ (if live dart then 1 else 0)

-- the first dart of a list is its least
abbrev pub BeginsWithLeast : List ℕ → Type 0
BeginsWithLeast [] = ⊥
BeginsWithLeast (x ∷ xs) = AllByRecursion (λ y. x < y) xs

-- the dart that a list begins with
abbrev pub first_of : List ℕ → ℕ
first_of [] = 0
first_of (x ∷ xs) = x

-- each list begins below the ones after it
abbrev pub FirstsRise : List (List ℕ) → Type 0
FirstsRise [] = Unit {0}
FirstsRise (xs ∷ rest) = AllByRecursion (λ ys. first_of xs < first_of ys) rest × FirstsRise rest

-- the listing of the cycles: each begins with its least dart, and the first darts rise
pub record IsListing (next : ℕ → ℕ) (live : ℕ → Bool) (lists : List (List ℕ)) : Type 0 where
  pub cycles : AreCycles next live lists
  pub least : AllByRecursion BeginsWithLeast lists
  pub rise : FirstsRise lists
