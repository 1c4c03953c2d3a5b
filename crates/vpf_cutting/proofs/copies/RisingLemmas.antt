-- Lists of numbers that rise, and filters of ranges.
use Rattle.std.proofs.Common.{◌≡◌, ℕ, zero, suc, ◌+◌, ◌<◌, ◌≤◌, Bool, true, false, eqb, ◌||◌, cond, List, [], ◌∷◌, map, refl, sym, ap, ◌∙◌, subst, inl, inr, arith, filter}
use Rattle.std.specs.List.{range_with_len, AllByRecursion}
use Rattle.std.proofs.lemmas.Bool.{cases_order, false≢true, eqb-true, eq-eqb, ne_eqb, or_from, or_left, or_right, or_cases, cond-true, cond-false}
use Rattle.vpf_cutting.specs.Inner.Copies.Presence.{is_one_of}

-- the numbers rise
abbrev pub Rises : List ℕ → Type 0
Rises [] = Unit {0}
Rises (x ∷ xs) = AllByRecursion (λ y. x < y) xs × Rises xs

-- functions that agree on a range give the same lists
pub map_range : {X : Type 0} (f g : ℕ → X) (a n : ℕ) → ((k : ℕ) → a ≤ k → k < a + n → f k ≡ g k) → map f (range_with_len a n) ≡ map g (range_with_len a n)
map_range f g a zero h = refl
map_range {X} f g a (suc n) h = ap (λ (x : X). x ∷ map f (range_with_len (a + 1) n)) (h a (omega arith) (omega arith)) ∙ ap (λ (xs : List X). g a ∷ xs) (map_range f g (a + 1) n (λ k i j. h k (omega arith) (omega arith)))

pub filter_range : (p q : ℕ → Bool) (a n : ℕ) → ((k : ℕ) → a ≤ k → k < a + n → p k ≡ q k) → filter p (range_with_len a n) ≡ filter q (range_with_len a n)
filter_range p q a zero h = refl
filter_range p q a (suc n) h = ap (λ b. cond b (a ∷ filter p (range_with_len (a + 1) n)) (filter p (range_with_len (a + 1) n))) (h a (omega arith) (omega arith)) ∙ ap (λ xs. cond (q a) (a ∷ xs) xs) (filter_range p q (a + 1) n (λ k i j. h k (omega arith) (omega arith)))

-- what is above x holds none up to it
pub none_up_to : (x i : ℕ) (xs : List ℕ) → i ≤ x → AllByRecursion (λ y. x < y) xs → is_one_of xs i ≡ false
none_up_to x i [] h a = refl
none_up_to x i (y ∷ ys) h a = let lt : x < y = a.0 in or_from (eqb y i) (is_one_of ys i) (ne_eqb y i (λ e. absurd (omega arith))) (none_up_to x i ys h a.1)

above_from : (x i : ℕ) (xs : List ℕ) → AllByRecursion (λ y. x < y) xs → is_one_of xs i ≡ true → x < i
above_from x i [] a h = absurd (false≢true h)
above_from x i (y ∷ ys) a h = let lt : x < y = a.0 in elim (or_cases (eqb y i) (is_one_of ys i) h) [
  | inl e ↦ (let same : y ≡ i = eqb-true y i e in omega arith)
  | inr r ↦ above_from x i ys a.1 r
]

abbrev pub Inside : List ℕ → ℕ → ℕ → Type 0
Inside xs a n = (i : ℕ) → is_one_of xs i ≡ true → (a ≤ i) × (i < a + n)

-- numbers of a range that rise are the filter of the range by them
pub up_is : (n a : ℕ) (xs : List ℕ) → Rises xs → Inside xs a n → xs ≡ filter (is_one_of xs) (range_with_len a n)
up_is zero a [] u b = refl
up_is zero a (x ∷ xs) u b = let i = b x (or_left (eqb x x) (is_one_of xs x) (eq-eqb x x refl)) in let lo : a ≤ x = i.0 in let hi : x < a + 0 = i.1 in absurd (omega arith)
up_is (suc n) a [] u b = up_is n (a + 1) [] tt (λ i h. absurd (false≢true h))
up_is (suc n) a (x ∷ xs) u b =
    let i = b x (or_left (eqb x x) (is_one_of xs x) (eq-eqb x x refl)) in
    let lo : a ≤ x = i.0 in
    let F : List ℕ = filter (is_one_of (x ∷ xs)) (range_with_len (a + 1) n) in
    elim (cases_order x a) [
      | inl e ↦ (
          let here : (eqb x a || is_one_of xs a) ≡ true = or_left (eqb x a) (is_one_of xs a) (eq-eqb x a e) in
          let rest : xs ≡ filter (is_one_of xs) (range_with_len (a + 1) n) = up_is n (a + 1) xs u.1 (λ j h. (let gt : x < j = above_from x j xs u.0 h in let hi : j < a + suc n = (b j (or_right (eqb x j) (is_one_of xs j) h)).1 in (omega arith, omega arith))) in
          let same : filter (is_one_of xs) (range_with_len (a + 1) n) ≡ F = filter_range (is_one_of xs) (is_one_of (x ∷ xs)) (a + 1) n (λ k p q. sym (ap (λ c. c || is_one_of xs k) (ne_eqb x k (λ f. absurd (omega arith))))) in
          ap (λ y. y ∷ xs) e ∙ ap (λ (ys : List ℕ). a ∷ ys) (rest ∙ same) ∙ sym (cond-true (eqb x a || is_one_of xs a) (a ∷ F) F here))
      | inr o ↦ elim o [
        | inl lt ↦ absurd (omega arith)
        | inr gt ↦ (
            let none : (eqb x a || is_one_of xs a) ≡ false = or_from (eqb x a) (is_one_of xs a) (ne_eqb x a (λ f. absurd (omega arith))) (none_up_to x a xs (omega arith) u.0) in
            up_is n (a + 1) (x ∷ xs) u (λ j h. (let r = b j h in let lj : a ≤ j = r.0 in let hj : j < a + suc n = r.1 in (above_none a j (x ∷ xs) none h lj, omega arith))) ∙ sym (cond-false (eqb x a || is_one_of xs a) (a ∷ F) F none))
      ]
    ]
  where
    above_none : (a j : ℕ) (ys : List ℕ) → is_one_of ys a ≡ false → is_one_of ys j ≡ true → a ≤ j → a + 1 ≤ j
    above_none a j ys n h l = elim (cases_order a j) [
      | inl e ↦ absurd (false≢true (sym n ∙ subst (λ z. is_one_of ys z ≡ true) (sym e) h))
      | inr o ↦ elim o [ inl lt ↦ omega arith | inr gt ↦ absurd (omega arith) ]
    ]
