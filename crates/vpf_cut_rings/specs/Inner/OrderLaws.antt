-- Lists of numbers that rise: they are known by what stands in them.
use Rattle.std.proofs.Common.{[], ◌≡◌, ℕ, true, false, eqb, refl, sym, subst, inl, inr, List, ◌∷◌, ◌+◌, ◌<◌, Bool, ap, ◌∙◌, arith, get_or, suc}
use Rattle.std.specs.List.{AllByRecursion}
use Rattle.std.proofs.lemmas.Bool.{or_cases, eqb-true, cases_Bool, or_left, or_right}
use Rattle.vpf_wing.specs.Inner.DartLaws.{never_both, stands_in}
use Rattle.std.specs.Prelude.{filter}
use Rattle.std.specs.List.Sorted.{IsStrictlyIncreasing}

pub each_of_all : (P : ℕ → Type 0) (z : ℕ) (xs : List ℕ) → AllByRecursion P xs → stands_in z xs ≡ true → P z
each_of_all P z [] a s = absurd (never_both false s refl)
each_of_all P z (y ∷ ys) a s = elim (or_cases (eqb z y) (stands_in z ys) s) [ inl e ↦ subst P (sym (eqb-true z y e)) a.0 | inr r ↦ each_of_all P z ys a.1 r ]

-- each number of a list is below the ones after it
abbrev pub RisesStrictly : List ℕ → Type 0
RisesStrictly [] = Unit {0}
RisesStrictly (x ∷ xs) = AllByRecursion (λ y. x < y) xs × RisesStrictly xs

pub kept_stands : (p : ℕ → Bool) (x : ℕ) (xs : List ℕ) → stands_in x (filter p xs) ≡ true → (p x ≡ true) × (stands_in x xs ≡ true)
kept_stands p x [] s = absurd (never_both false s refl)
kept_stands p x (y ∷ ys) s = elim (cases_Bool (p y)) [
  | inl t ↦ (
      let s' = rw t at s in
      elim (or_cases (eqb x y) (stands_in x (filter p ys)) s') [
        | inl e ↦ (ap p (eqb-true x y e) ∙ t, or_left (eqb x y) (stands_in x ys) e)
        | inr r ↦ (let q = kept_stands p x ys r in (q.0, or_right (eqb x y) (stands_in x ys) q.1))
      ])
  | inr f ↦ (let s' = rw f at s in let q = kept_stands p x ys s' in (q.0, or_right (eqb x y) (stands_in x ys) q.1))
]

pub all_more : (P Q : ℕ → Type 0) → ((x : ℕ) → P x → Q x) → (xs : List ℕ) → AllByRecursion P xs → AllByRecursion Q xs
all_more P Q h [] a = tt
all_more P Q h (x ∷ xs) a = (h x a.0, all_more P Q h xs a.1)

later : (x : ℕ) (xs : List ℕ) → IsStrictlyIncreasing (x ∷ xs) → IsStrictlyIncreasing xs
later x xs up k h =
    subst (λ j. get_or xs k 0 < get_or (x ∷ xs) j 0) (let e : suc k + 1 ≡ suc (k + 1) = omega arith in e) (up (suc k) (omega arith))

pub over : (x : ℕ) (xs : List ℕ) → IsStrictlyIncreasing (x ∷ xs) → AllByRecursion (λ y. x < y) xs
over x [] up = tt
over x (y ∷ ys) up = (
    let step : x < y = up 0 (omega arith) in
    (step, all_more (λ z. y < z) (λ z. x < z) (λ z h. omega arith) ys (over y ys (later x (y ∷ ys) up))))

pub rises_of : (xs : List ℕ) → IsStrictlyIncreasing xs → RisesStrictly xs
rises_of [] up = tt
rises_of (x ∷ xs) up = (over x xs up, rises_of xs (later x xs up))
