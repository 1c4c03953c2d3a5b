-- Walks: a walk in a list of darts needs no more steps than it has darts, and the least dart of a cycle; lists in pairs.
use Rattle.std.proofs.Common.{[], ◌≡◌, ◌≢◌, ℕ, suc, ◌≤◌, true, false, cond, eqb, ◌||◌, refl, sym, ap, ◌∙◌, inl, inr, arith, List, ◌∷◌, length}
use Rattle.std.proofs.lemmas.Bool.{cases_Bool, or_cases, or_left, or_right, eqb-true, eq-eqb}
use Rattle.vpf_wing.specs.Inner.DartLaws.{never_both, stands_in}

abbrev pub Distinct : List ℕ → Type 0
Distinct [] = Unit {0}
Distinct (x ∷ xs) = (stands_in x xs ≡ false) × Distinct xs

abbrev pub drop_one : ℕ → List ℕ → List ℕ
drop_one x [] = []
drop_one x (y ∷ ys) = cond (eqb x y) ys (y ∷ drop_one x ys)

pub dropped_length : (x : ℕ) (ys : List ℕ) → stands_in x ys ≡ true → length ys ≡ suc (length (drop_one x ys))
dropped_length x [] s = absurd (never_both false s refl)
dropped_length x (y ∷ ys) s = elim (cases_Bool (eqb x y)) [
  | inl e ↦ rw e refl
  | inr n ↦ rw n (ap suc (dropped_length x ys (sym (ap (λ b. b || stands_in x ys) n) ∙ s)))
]

pub dropped_stands : (x z : ℕ) (ys : List ℕ) → x ≢ z → stands_in z ys ≡ true → stands_in z (drop_one x ys) ≡ true
dropped_stands x z [] ne s = absurd (never_both false s refl)
dropped_stands x z (y ∷ ys) ne s = elim (or_cases (eqb z y) (stands_in z ys) s) [
  | inl a ↦ (elim (cases_Bool (eqb x y)) [
    | inl e ↦ absurd (ne (eqb-true x y e ∙ sym (eqb-true z y a)))
    | inr n ↦ rw n (or_left (eqb z y) (stands_in z (drop_one x ys)) a)
  ])
  | inr b ↦ (elim (cases_Bool (eqb x y)) [
    | inl e ↦ rw e b
    | inr n ↦ rw n (or_right (eqb z y) (stands_in z (drop_one x ys)) (dropped_stands x z ys ne b))
  ])
]

pub distinct_few : (xs ys : List ℕ) → Distinct xs → ((x : ℕ) → stands_in x xs ≡ true → stands_in x ys ≡ true) → length xs ≤ length ys
distinct_few [] ys d h = omega arith
distinct_few (x ∷ xs) ys d h = (
    let sx : stands_in x ys ≡ true = h x (or_left (eqb x x) (stands_in x xs) (eq-eqb x x refl)) in
    let e : length ys ≡ suc (length (drop_one x ys)) = dropped_length x ys sx in
    let r : length xs ≤ length (drop_one x ys) =
    distinct_few xs (drop_one x ys) d.1 (λ z s.
    dropped_stands x z ys (λ q. never_both (stands_in x xs) (ap (λ v. stands_in v xs) q ∙ s) d.0) (h z (or_right (eqb z x) (stands_in z xs) s))) in
    omega arith)
