-- The darts of a cycle that is written out lead to each other, and what the steps keep is the same for all.
use Rattle.std.proofs.Common.{◌≡◌, ℕ, zero, suc, ◌+◌, ◌<◌, true, false, ◌==◌, List, [], ◌∷◌, ◌++◌, map, refl, sym, ap, subst, ◌∙◌, inl, inr, arith}
use Rattle.std.proofs.lemmas.Bool.{cases_eq}
use Rattle.std.proofs.lemmas.Bool.Decides.{nat_tests}
use Rattle.vpf_darts.specs.Cycles.{IsCycle, count_of}
use Rattle.vpf_wing.specs.Walks.{Steps, LeadsTo}

-- a step more at the beginning
step_on : (next : ℕ → ℕ) (x y z : ℕ) → next x ≡ y → LeadsTo next y z → LeadsTo next x z
step_on next x y z e l = (suc l.0, subst (λ v. Steps next l.0 v z) (sym e) l.1)

-- no step at all
stay : (next : ℕ → ℕ) (x y : ℕ) → x ≡ y → LeadsTo next x y
stay next x y e = (0, e)

heads : (x y : ℕ) (xs ys : List ℕ) → x ∷ xs ≡ y ∷ ys → (x ≡ y) × (xs ≡ ys)
heads x y xs ys e = (cc, cc)

-- what stands in a list but isn't its first stands in the rest
in_rest : (s y : ℕ) (xs : List ℕ) → (s ≡ y → ⊥) → 0 < count_of y (s ∷ xs) → 0 < count_of y xs
in_rest s y xs ne h =
    let c : (s == y) ≡ false = grind (arith, nat_tests) in
    let o : count_of y (s ∷ xs) ≡ 0 + count_of y xs = rw c refl in
    omega arith

-- the first dart of a walk leads to each
from_first : (next : ℕ → ℕ) (s : ℕ) (xs : List ℕ) (z y : ℕ) → map next (s ∷ xs) ≡ xs ++ z ∷ [] → 0 < count_of y (s ∷ xs) → LeadsTo next s y
from_first next s [] z y e h = elim (cases_eq s y) [ inl q ↦ stay next s y q | inr q ↦ absurd (let n : 0 < 0 = in_rest s y [] q h in omega arith) ]
from_first next s (x ∷ xs) z y e h = elim (cases_eq s y) [
  | inl q ↦ stay next s y q
  | inr q ↦ (let p = heads (next s) x (map next (x ∷ xs)) (xs ++ z ∷ []) e in step_on next s x y p.0 (from_first next x xs z y p.1 (in_rest s y (x ∷ xs) q h)))
]

has_first : (s : ℕ) (xs : List ℕ) → 0 < count_of s (s ∷ xs)
has_first s xs =
    let r : (s == s) ≡ true = grind (arith, nat_tests) in
    let o : count_of s (s ∷ xs) ≡ 1 + count_of s xs = rw r refl in
    omega arith

-- each dart of a walk leads wherever the dart after its last leads
from_each : (next : ℕ → ℕ) (s : ℕ) (xs : List ℕ) (z x y : ℕ) → map next (s ∷ xs) ≡ xs ++ z ∷ [] → 0 < count_of x (s ∷ xs) → LeadsTo next z y → LeadsTo next x y
from_each next s [] z x y e h l = elim (cases_eq s x) [
  | inl q ↦ (let p = heads (next s) z [] [] e in step_on next x z y (ap next (sym q) ∙ p.0) l)
  | inr q ↦ absurd (let n : 0 < 0 = in_rest s x [] q h in omega arith)
]
from_each next s (t ∷ xs) z x y e h l =
    let p = heads (next s) t (map next (t ∷ xs)) (xs ++ z ∷ []) e in
    elim (cases_eq s x) [
      | inl q ↦ step_on next x t y (ap next (sym q) ∙ p.0) (from_each next t xs z t y p.1 (has_first t xs) l)
      | inr q ↦ from_each next t xs z x y p.1 (in_rest s x (t ∷ xs) q h) l
    ]

-- each dart of a cycle leads to each
pub cycle_leads : (next : ℕ → ℕ) (darts : List ℕ) (x y : ℕ) → IsCycle next darts → 0 < count_of x darts → 0 < count_of y darts → LeadsTo next x y
cycle_leads next [] x y c hx hy = absurd c
cycle_leads next (s ∷ xs) x y c hx hy = from_each next s xs s x y c hx (from_first next s xs s y c hy)

-- what each step keeps is kept
pub kept_on : (next : ℕ → ℕ) (f : ℕ → ℕ) → ((d : ℕ) → f (next d) ≡ f d) → (k x y : ℕ) → Steps next k x y → f y ≡ f x
kept_on next f keeps zero x y s = ap f (sym s)
kept_on next f keeps (suc k) x y s = kept_on next f keeps k (next x) y s ∙ keeps x
