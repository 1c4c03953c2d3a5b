-- Lists of numbers that rise: they are known by what stands in them.
use Rattle.std.proofs.Common.{[], ◌≡◌, ℕ, ◌+◌, ◌<◌, Bool, true, false, eqb, refl, sym, ap, ◌∙◌, subst, inl, inr, arith, List, ◌∷◌, length, map, get_or, zero, suc}
use Rattle.std.specs.Prelude.{filter}
use Rattle.std.specs.List.{AllByRecursion, range_with_len}
use Rattle.std.specs.List.Sorted.{IsStrictlyIncreasing}
use Rattle.std.proofs.lemmas.Bool.{cases_Bool, or_cases, or_left, or_right, eqb-true, eq-eqb}
use Rattle.vpf_darts.specs.Cycles.{FirstsRise, first_of}
use Rattle.vpf_wing.specs.Inner.DartLaws.{never_both, stands_in}
use Rattle.vpf_cut_rings.specs.Inner.OrderLaws.{each_of_all as all_at, over, RisesStrictly as Rises}

-- two tests that hold together are one
pub same_test : (a b : Bool) → (a ≡ true → b ≡ true) → (b ≡ true → a ≡ true) → a ≡ b
same_test true b f g = sym (f refl)
same_test false true f g = g refl
same_test false false f g = refl

pub all_kept : (P : ℕ → Type 0) (p : ℕ → Bool) (xs : List ℕ) → AllByRecursion P xs → AllByRecursion P (filter p xs)
all_kept P p [] a = tt
all_kept P p (x ∷ xs) a = elim (cases_Bool (p x)) [ inl t ↦ rw t (a.0, all_kept P p xs a.1) | inr f ↦ rw f (all_kept P p xs a.1) ]

pub kept_rise : (p : ℕ → Bool) (xs : List ℕ) → Rises xs → Rises (filter p xs)
kept_rise p [] r = tt
kept_rise p (x ∷ xs) r = elim (cases_Bool (p x)) [ inl t ↦ rw t (all_kept (λ y. x < y) p xs r.0, kept_rise p xs r.1) | inr f ↦ rw f (kept_rise p xs r.1) ]

-- the first darts of lists that rise by them
pub firsts_rise : (lists : List (List ℕ)) → FirstsRise lists → Rises (map first_of lists)
firsts_rise [] r = tt
firsts_rise (xs ∷ rest) r = (above rest r.0, firsts_rise rest r.1)
  where
    above : (rest : List (List ℕ)) → AllByRecursion (λ ys. first_of xs < first_of ys) rest → AllByRecursion (λ y. first_of xs < y) (map first_of rest)
    above [] a = tt
    above (ys ∷ rest) a = (a.0, above rest a.1)

-- where one number begins both lists, the rest of the one has what the rest of the other has
rest_stands : (x : ℕ) (xs ys : List ℕ) → AllByRecursion (λ y. x < y) xs → (z : ℕ) → stands_in z (x ∷ xs) ≡ stands_in z (x ∷ ys) → stands_in z xs ≡ true
    → stands_in z ys ≡ true
rest_stands x xs ys a z h s =
    let over : x < z = all_at (λ y. x < y) z xs a s in
    elim (or_cases (eqb z x) (stands_in z ys) (sym h ∙ or_right (eqb z x) (stands_in z xs) s)) [
      | inl e ↦ (let same : z ≡ x = eqb-true z x e in absurd (omega arith))
      | inr r ↦ r
    ]

-- two lists that rise and have the same numbers are one
pub one_rising : (xs ys : List ℕ) → Rises xs → Rises ys → ((z : ℕ) → stands_in z xs ≡ stands_in z ys) → xs ≡ ys
one_rising [] [] a b h = refl
one_rising [] (y ∷ ys) a b h = absurd (never_both false (h y ∙ or_left (eqb y y) (stands_in y ys) (eq-eqb y y refl)) refl)
one_rising (x ∷ xs) [] a b h = absurd (never_both false (sym (h x) ∙ or_left (eqb x x) (stands_in x xs) (eq-eqb x x refl)) refl)
one_rising (x ∷ xs) (y ∷ ys) a b h = (
    let same : x ≡ y = first_one x y xs ys a.0 b.0 h in
    let h' : (z : ℕ) → stands_in z (x ∷ xs) ≡ stands_in z (x ∷ ys) = λ z. h z ∙ ap (λ v. stands_in z (v ∷ ys)) (sym same) in
    let b' : AllByRecursion (λ v. x < v) ys = subst (λ w. AllByRecursion (λ v. w < v) ys) (sym same) b.0 in
    ap (λ v. v ∷ xs) same
    ∙ ap (λ v. y ∷ v) (one_rising xs ys a.1 b.1 (λ z. same_test _ _ (rest_stands x xs ys a.0 z (h' z)) (rest_stands x ys xs b' z (sym (h' z))))))
  where
    first_one : (x y : ℕ) (xs ys : List ℕ) → AllByRecursion (λ v. x < v) xs → AllByRecursion (λ v. y < v) ys
        → ((z : ℕ) → stands_in z (x ∷ xs) ≡ stands_in z (y ∷ ys)) → x ≡ y
    first_one x y xs ys a b h =
        elim (or_cases (eqb x y) (stands_in x ys) (sym (h x) ∙ or_left (eqb x x) (stands_in x xs) (eq-eqb x x refl))) [
          | inl e ↦ eqb-true x y e
          | inr r ↦ (elim (or_cases (eqb y x) (stands_in y xs) (h y ∙ or_left (eqb y y) (stands_in y ys) (eq-eqb y y refl))) [
            | inl e ↦ sym (eqb-true y x e)
            | inr s ↦ (let p : y < x = all_at (λ v. y < v) x ys b r in let q : x < y = all_at (λ v. x < v) y xs a s in absurd (omega arith))
          ])
        ]

-- ---- lists that rise, by their places

-- and back
pub increasing_of : (xs : List ℕ) → Rises xs → IsStrictlyIncreasing xs
increasing_of xs r k h = subst (λ j. get_or xs k 0 < get_or xs j 0) (let e : suc k ≡ k + 1 = omega arith in e) (step xs r k (omega arith))
  where
    step : (xs : List ℕ) → Rises xs → (k : ℕ) → suc k < length xs → get_or xs k 0 < get_or xs (suc k) 0
    step [] r k h = absurd (omega arith)
    step (x ∷ []) r k h = absurd (omega arith)
    step (x ∷ y ∷ ys) r zero h = r.0.0
    step (x ∷ y ∷ ys) r (suc k) h = step (y ∷ ys) r.1 k (omega arith)

-- the numbers of a range rise
pub range_rises : (a n : ℕ) → Rises (range_with_len a n)
range_rises a zero = tt
range_rises a (suc n) = (above a (a + 1) n (omega arith), range_rises (a + 1) n)
  where
    above : (x a n : ℕ) → x < a → AllByRecursion (λ y. x < y) (range_with_len a n)
    above x a zero h = tt
    above x a (suc n) h = (h, above x (a + 1) n (omega arith))
