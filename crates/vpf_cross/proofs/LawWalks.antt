-- Walks along a function on numbers: the first step that comes to a number on a cycle, and how few there are before it.
use Rattle.std.proofs.Common.{[], ◌≡◌, ℕ, zero, suc, ◌+◌, ◌-◌, ◌<◌, ◌≤◌, true, false, cond, eqb, refl, sym, ap, ◌∙◌, subst, inl, inr, arith, List, ◌∷◌, ◌++◌, length, map}
use Rattle.std.proofs.lemmas.Bool.{cases_Bool, cases_eq, or_cases, or_left, or_right, eqb-true}
use Rattle.vpf_darts.specs.Cycles.{IsCycle, first_of}
use Rattle.vpf_wing.specs.Inner.DartLaws.{never_both, stands_in}
use Rattle.vpf_follow.specs.Inner.HomeLaws.{after_first as rest_of}

-- what comes k steps after x
unfoldable pub after : (ℕ → ℕ) → ℕ → ℕ → ℕ
after f zero x = x
after f (suc k) x = after f k (f x)

pub after_add : (f : ℕ → ℕ) (k n x : ℕ) → after f (k + n) x ≡ after f k (after f n x)
unfolding after
after_add f k zero x = let e : k + zero ≡ k = omega arith in ap (λ m. after f m x) e
after_add f k (suc n) x = let e : k + suc n ≡ suc (k + n) = omega arith in ap (λ m. after f m x) e ∙ after_add f k n (f x)

-- the first step that comes to z
pub record FirstStep (f : ℕ → ℕ) (x z : ℕ) : Type 0 where
  pub steps : ℕ
  pub comes : after f steps x ≡ z
  pub before : (i : ℕ) → i < steps → after f i x ≡ z → ⊥

pub first_step : (f : ℕ → ℕ) (k x z : ℕ) → after f k x ≡ z → FirstStep f x z
unfolding after
first_step f zero x z e = record { steps = 0; comes = e; before = λ i lt. absurd (omega arith) }
first_step f (suc k) x z e = elim (cases_eq x z) [
  | inl same ↦ record { steps = 0; comes = same; before = λ i lt. absurd (omega arith) }
  | inr ne ↦ (let r : FirstStep f (f x) z = first_step f k (f x) z e in record { steps = suc r.steps; comes = r.comes; before = later r ne })
]
  where
    later : (r : FirstStep f (f x) z) → (x ≡ z → ⊥) → (i : ℕ) → i < suc r.steps → after f i x ≡ z → ⊥
    later r ne zero lt same = ne same
    later r ne (suc i) lt same = r.before i (omega arith) same

-- a list without one of its items
leaving : ℕ → List ℕ → List ℕ
leaving x [] = []
leaving x (y ∷ ys) = cond (eqb x y) ys (y ∷ leaving x ys)

leaving_length : (x : ℕ) (xs : List ℕ) → stands_in x xs ≡ true → length xs ≡ suc (length (leaving x xs))
unfolding leaving
leaving_length x [] h = absurd (never_both false h refl)
leaving_length x (y ∷ ys) h = elim (cases_Bool (eqb x y)) [
  | inl t ↦ rw t refl
  | inr f ↦ (elim (or_cases (eqb x y) (stands_in x ys) h) [
    | inl t ↦ absurd (never_both (eqb x y) t f)
    | inr s ↦ rw f (ap suc (leaving_length x ys s))
  ])
]

leaving_stands : (x w : ℕ) (xs : List ℕ) → (w ≡ x → ⊥) → stands_in w xs ≡ true → stands_in w (leaving x xs) ≡ true
unfolding leaving
leaving_stands x w [] ne h = h
leaving_stands x w (y ∷ ys) ne h = elim (cases_Bool (eqb x y)) [
  | inl t ↦ (elim (or_cases (eqb w y) (stands_in w ys) h) [
    | inl e ↦ absurd (ne (eqb-true w y e ∙ sym (eqb-true x y t)))
    | inr s ↦ rw t s
  ])
  | inr f ↦ (elim (or_cases (eqb w y) (stands_in w ys) h) [
    | inl e ↦ rw f (or_left (eqb w y) (stands_in w (leaving x ys)) e)
    | inr s ↦ rw f (or_right (eqb w y) (stands_in w (leaving x ys)) (leaving_stands x w ys ne s))
  ])
]

-- the first walk to z passes no number twice, so it has fewer steps than a list that has all that it passes
pub steps_below : (f : ℕ → ℕ) (j x z : ℕ) (xs : List ℕ) → after f j x ≡ z → ((i : ℕ) → i < j → after f i x ≡ z → ⊥)
    → ((i : ℕ) → i ≤ j → stands_in (after f i x) xs ≡ true) → j < length xs
unfolding after
steps_below f zero x z [] e before all = absurd (never_both false (all zero (omega arith)) refl)
steps_below f zero x z (y ∷ ys) e before all = omega arith
steps_below f (suc j) x z xs e before all =
    let here : length xs ≡ suc (length (leaving x xs)) = leaving_length x xs (all zero (omega arith)) in
    let left : (i : ℕ) → i ≤ j → stands_in (after f i (f x)) (leaving x xs) ≡ true = λ i le.
    leaving_stands x (after f i (f x)) xs (λ back. (
    let n : suc j ≡ (j - i) + suc i = omega arith in
    let same : after f (suc j) x ≡ after f (j - i) x = ap (λ m. after f m x) n ∙ after_add f (j - i) (suc i) x ∙ ap (after f (j - i)) back in
    before (j - i) (omega arith) (sym same ∙ e)))
    (all (suc i) (omega arith)) in
    let rest : j < length (leaving x xs) = steps_below f j (f x) z (leaving x xs) e (λ i lt. before (suc i) (omega arith)) left in
    omega arith

pub record StepBefore (f : ℕ → ℕ) (x y : ℕ) : Type 0 where
  pub steps : ℕ
  pub goes : f (after f steps x) ≡ y

along : (f : ℕ → ℕ) (y x : ℕ) (xs : List ℕ) → map f (x ∷ xs) ≡ xs ++ y ∷ [] → StepBefore f x y
unfolding after rest_of
along f y x [] h = record { steps = 0; goes = ap first_of h }
along f y x (z ∷ xs) h =
    let r : StepBefore f z y = along f y z xs (ap rest_of h) in
    let e : f x ≡ z = ap first_of h in
    record { steps = suc r.steps; goes = ap (λ w. f (after f r.steps w)) e ∙ r.goes }

pub round : (f : ℕ → ℕ) (cycle : List ℕ) (x : ℕ) → IsCycle f cycle → first_of cycle ≡ x → StepBefore f x x
round f [] x h e = absurd h
round f (y ∷ ys) x h e = subst (λ z. StepBefore f z z) e (along f y y ys h)
