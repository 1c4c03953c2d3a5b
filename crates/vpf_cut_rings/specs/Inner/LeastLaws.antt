-- The least darts of the cycles of a listing are those that its lists begin with.
use Rattle.std.proofs.Common.{[], ◌≡◌, ℕ, ◌+◌, ◌≤◌, Bool, true, false, cond, eqb, refl, sym, ap, inl, inr, arith, List, ◌∷◌, zero, suc, ◌<◌, ◌∙◌, subst, ◌++◌, length, map, min}
use Rattle.std.proofs.lemmas.Bool.{or_cases, eqb-true, eq-eqb, cases_Bool, or_left, or_right}
use Rattle.vpf_darts.specs.Cycles.{count_of, BeginsWithLeast, IsCycle, first_of}
use Rattle.vpf_wing.specs.Inner.DartLaws.{never_both, stands_in, stands-either}
use Rattle.vpf_wing.specs.Walks.{Steps, least_after}
use Rattle.vpf_cut_rings.specs.Inner.OrderLaws.{each_of_all as all_at}
use Rattle.vpf_base.proofs.Booleans.{one_if}

pub stands_counts : (x : ℕ) (xs : List ℕ) → stands_in x xs ≡ true → 1 ≤ count_of x xs
stands_counts x [] s = absurd (never_both false s refl)
stands_counts x (y ∷ ys) s = elim (or_cases (eqb x y) (stands_in x ys) s) [
  | inl e ↦ (let one : one_if (eqb y x) ≡ 1 = ap one_if (eq-eqb y x (sym (eqb-true x y e))) in let goal : 1 ≤ one_if (eqb y x) + count_of x ys = omega arith in goal)
  | inr r ↦ (let more : 1 ≤ count_of x ys = stands_counts x ys r in let goal : 1 ≤ one_if (eqb y x) + count_of x ys = omega arith in goal)
]

abbrev pub taken : ℕ → List ℕ → List ℕ
taken x [] = []
taken x (y ∷ ys) = cond (eqb y x) ys (y ∷ taken x ys)

pub taken_counts : (x z : ℕ) (ys : List ℕ) → 1 ≤ count_of x ys → count_of z ys ≡ one_if (eqb x z) + count_of z (taken x ys)
taken_counts x z [] h = absurd (omega arith)
taken_counts x z (y ∷ ys) h = elim (cases_Bool (eqb y x)) [
  | inl e ↦ rw e (ap (λ v. one_if (eqb v z) + count_of z ys) (eqb-true y x e))
  | inr n ↦ (
      let here : 1 ≤ one_if (eqb y x) + count_of x ys = h in
      let none : one_if (eqb y x) ≡ 0 = ap one_if n in
      let r : count_of z ys ≡ one_if (eqb x z) + count_of z (taken x ys) = taken_counts x z ys (omega arith) in
      rw n (moved (one_if (eqb y z)) (one_if (eqb x z)) (count_of z ys) (count_of z (taken x ys)) r))
]
  where
    moved : (a b c d : ℕ) → c ≡ b + d → a + c ≡ b + (a + d)
    moved a b c d e = omega arith

pub taken_length : (x : ℕ) (ys : List ℕ) → 1 ≤ count_of x ys → length ys ≡ suc (length (taken x ys))
taken_length x [] h = absurd (omega arith)
taken_length x (y ∷ ys) h = elim (cases_Bool (eqb y x)) [
  | inl e ↦ rw e refl
  | inr n ↦ (
      let here : 1 ≤ one_if (eqb y x) + count_of x ys = h in
      let none : one_if (eqb y x) ≡ 0 = ap one_if n in
      rw n (ap suc (taken_length x ys (omega arith))))
]

pub few_by_counts : (xs ys : List ℕ) → ((z : ℕ) → count_of z xs ≤ count_of z ys) → length xs ≤ length ys
few_by_counts [] ys h = omega arith
few_by_counts (x ∷ xs) ys h = (
    let hx : one_if (eqb x x) + count_of x xs ≤ count_of x ys = h x in
    let one : one_if (eqb x x) ≡ 1 = ap one_if (eq-eqb x x refl) in
    let has : 1 ≤ count_of x ys = omega arith in
    let l : length ys ≡ suc (length (taken x ys)) = taken_length x ys has in
    let r : length xs ≤ length (taken x ys) = few_by_counts xs (taken x ys) (λ z. less (one_if (eqb x z)) _ _ _ (h z) (taken_counts x z ys has)) in
    omega arith)
  where
    less : (a b c d : ℕ) → a + b ≤ c → c ≡ a + d → b ≤ d
    less a b c d h e = omega arith

pub counts_stands : (x : ℕ) (xs : List ℕ) → 1 ≤ count_of x xs → stands_in x xs ≡ true
counts_stands x [] h = absurd (omega arith)
counts_stands x (y ∷ ys) h = elim (cases_Bool (eqb y x)) [
  | inl e ↦ or_left (eqb x y) (stands_in x ys) (eq-eqb x y (sym (eqb-true y x e)))
  | inr n ↦ (
      let here : 1 ≤ one_if (eqb y x) + count_of x ys = h in
      let none : one_if (eqb y x) ≡ 0 = ap one_if n in
      or_right (eqb x y) (stands_in x ys) (counts_stands x ys (omega arith)))
]

pub count_join : (z : ℕ) (xs ys : List ℕ) → count_of z (xs ++ ys) ≡ count_of z xs + count_of z ys
count_join z [] ys = let e : count_of z ys ≡ 0 + count_of z ys = omega arith in e
count_join z (x ∷ xs) ys = moved (one_if (eqb x z)) _ _ _ (count_join z xs ys)
  where
    moved : (a b c d : ℕ) → b ≡ c + d → a + b ≡ (a + c) + d
    moved a b c d e = omega arith

-- a dart of a cycle comes to its first dart in no more steps than it has darts, and a test that is the same along the nexts is the same at both
pub record Reaches (f : ℕ → ℕ) (p : ℕ → Bool) (n z a : ℕ) : Type 0 where
  pub count : ℕ
  pub few : count ≤ n
  pub steps : Steps f count z a
  pub same : p z ≡ p a

abbrev second : List ℕ → List ℕ
second [] = []
second (z ∷ zs) = zs

pub reaches : (f : ℕ → ℕ) (p : ℕ → Bool) (x a : ℕ) (xs : List ℕ) → map f (x ∷ xs) ≡ xs ++ a ∷ [] → ((w : ℕ) → stands_in w (x ∷ xs) ≡ true → p (f w) ≡ p w)
    → (z : ℕ) → stands_in z (x ∷ xs) ≡ true → Reaches f p (length (x ∷ xs)) z a
reaches f p x a [] h k z s =
    let e : f x ≡ a = ap first_of h in
    elim (or_cases (eqb z x) false s) [
      | inl b ↦
          subst (λ v. Reaches f p 1 v a) (sym (eqb-true z x b))
          (record { count = 1; few = omega arith; steps = e; same = sym (k x (or_left (eqb x x) false (eq-eqb x x refl))) ∙ ap p e })
      | inr n ↦ absurd (never_both false n refl)
    ]
reaches f p x a (y ∷ ys) h k z s = (
    let e : f x ≡ y = ap first_of h in
    let later : (w : ℕ) → stands_in w (y ∷ ys) ≡ true → p (f w) ≡ p w = λ w i. k w (or_right (eqb w x) (stands_in w (y ∷ ys)) i) in
    let r : Reaches f p (length (y ∷ ys)) y a = reaches f p y a ys (ap second h) later y (or_left (eqb y y) (stands_in y ys) (eq-eqb y y refl)) in
    elim (or_cases (eqb z x) (stands_in z (y ∷ ys)) s) [
      | inl b ↦
          subst (λ v. Reaches f p (length (x ∷ y ∷ ys)) v a) (sym (eqb-true z x b)) (record {
            count = suc r.count;
            few = let few = r.few in omega arith;
            steps = subst (λ v. Steps f r.count v a) (sym e) r.steps;
            same = sym (k x (or_left (eqb x x) (stands_in x (y ∷ ys)) (eq-eqb x x refl))) ∙ ap p e ∙ r.same;
          })
      | inr i ↦ more (reaches f p y a ys (ap second h) later z i)
    ])
  where
    more : {n w : ℕ} → Reaches f p n w a → Reaches f p (suc n) w a
    more r = record { count = r.count; few = let few = r.few in omega arith; steps = r.steps; same = r.same }

stands_map : (f : ℕ → ℕ) (z : ℕ) (xs : List ℕ) → stands_in z xs ≡ true → stands_in (f z) (map f xs) ≡ true
stands_map f z [] s = absurd (never_both false s refl)
stands_map f z (y ∷ ys) s = elim (or_cases (eqb z y) (stands_in z ys) s) [
  | inl e ↦ or_left (eqb (f z) (f y)) (stands_in (f z) (map f ys)) (eq-eqb (f z) (f y) (ap f (eqb-true z y e)))
  | inr r ↦ or_right (eqb (f z) (f y)) (stands_in (f z) (map f ys)) (stands_map f z ys r)
]

-- the next of a dart of a cycle is one of it
pub cycle_closed : (f : ℕ → ℕ) (xs : List ℕ) → IsCycle f xs → (z : ℕ) → stands_in z xs ≡ true → stands_in (f z) xs ≡ true
cycle_closed f [] h z s = absurd h
cycle_closed f (x ∷ xs) h z s =
    elim (stands-either (f z) xs (x ∷ []) (ap (stands_in (f z)) (sym h) ∙ stands_map f z (x ∷ xs) s)) [
      | inl a ↦ or_right (eqb (f z) x) (stands_in (f z) xs) a
      | inr b ↦ (elim (or_cases (eqb (f z) x) false b) [ inl e ↦ or_left (eqb (f z) x) (stands_in (f z) xs) e | inr n ↦ absurd (never_both false n refl) ])
    ]

-- the least dart after one is not below what none of a cycle is below
pub least_over : (f : ℕ → ℕ) (xs : List ℕ) (a : ℕ) → IsCycle f xs → ((z : ℕ) → stands_in z xs ≡ true → a ≤ z) → (n x : ℕ) → stands_in x xs ≡ true
    → a ≤ least_after f n x
least_over f xs a c low zero x s = low x s
least_over f xs a c low (suc n) x s =
    let here : a ≤ x = low x s in
    let later : a ≤ least_after f n (f x) = least_over f xs a c low n (f x) (cycle_closed f xs c x s) in
    omega arith

-- nor is it above a dart that few steps lead to
pub least_under : (f : ℕ → ℕ) (k n x y : ℕ) → k ≤ n → Steps f k x y → least_after f n x ≤ y
least_under f zero zero x y le s = subst (λ v. x ≤ v) s (omega arith)
least_under f zero (suc n) x y le s = subst (λ v. min x (least_after f n (f x)) ≤ v) s (omega arith)
least_under f (suc k) zero x y le s = absurd (omega arith)
least_under f (suc k) (suc n) x y le s = let later : least_after f n (f x) ≤ y = least_under f k n (f x) y (omega (arith, le)) s in omega arith

-- no dart of a cycle is below its first
pub first_lowest : (x : ℕ) (xs : List ℕ) → BeginsWithLeast (x ∷ xs) → (z : ℕ) → stands_in z (x ∷ xs) ≡ true → x ≤ z
first_lowest x xs b z s = elim (or_cases (eqb z x) (stands_in z xs) s) [
  | inl e ↦ (let same : z ≡ x = eqb-true z x e in omega arith)
  | inr r ↦ (let up : x < z = all_at (λ y. x < y) z xs b r in omega arith)
]
