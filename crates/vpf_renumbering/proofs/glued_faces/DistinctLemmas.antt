-- Lists of numbers in which none stands twice.
use Rattle.std.proofs.Common.{[], ◌≡◌, ℕ, zero, suc, ◌+◌, ◌<◌, ◌≤◌, ◌⊎◌, Bool, true, false, eqb, ◌||◌, refl, sym, ap, ◌∙◌, inl, inr, arith, List, ◌∷◌, ◌++◌, length, map, get_or}
use Rattle.std.proofs.lemmas.Bool.{cases_Bool, eq-eqb, eqb-true, or_cases, or_left, or_right}
use Rattle.std.proofs.lemmas.List.Concat.{flat_map-append}
use Rattle.std.proofs.lemmas.Map.Keys.{below_from_sorted, sorted_from_strictly_increasing}
use Rattle.std.proofs.lemmas.Map.Made.{length-le_from_is_member}
use Rattle.std.specs.List.{AllByRecursion, IsDistinct, list_any, range_with_len}
use Rattle.std.specs.List.Sorted.{IsStrictlyIncreasing}
use Rattle.std.specs.Prelude.{filter, flat_map}
use Rattle.vpf_wing.specs.Inner.DartLaws.{never_both}
use Rattle.vpf_base.proofs.Lists.{all_joined as all_join}

pub no_test : (b : Bool) → (b ≡ true → ⊥) → b ≡ false
no_test true h = absurd (h refl)
no_test false h = refl

eqb-congr : (x y z : ℕ) → eqb x y ≡ true → eqb x z ≡ eqb y z
eqb-congr x y z e = ap (λ v. eqb v z) (eqb-true x y e)

eqb-flip : (x y : ℕ) → eqb x y ≡ true → eqb y x ≡ true
eqb-flip x y e = eq-eqb y x (sym (eqb-true x y e))

eqb-symm : (x y : ℕ) → eqb x y ≡ eqb y x
eqb-symm x y = elim (cases_Bool (eqb x y)) [
  | inl t ↦ t ∙ sym (eqb-flip x y t)
  | inr f ↦ f ∙ sym (no_test (eqb y x) (λ t. never_both (eqb x y) (eqb-flip y x t) f))
]

-- no more numbers than those among which they all stand
pub few_among : (xs ys : List ℕ) → IsDistinct eqb xs → ((q : ℕ) → list_any (eqb q) xs ≡ true → list_any (eqb q) ys ≡ true) → length xs ≤ length ys
few_among xs ys d h = length-le_from_is_member (record { refl = λ x. eq-eqb x x refl; symm = eqb-symm; congr = eqb-congr }) xs ys d h

-- ---- those of a list that pass, by a number of each

-- what stands among the numbers of those that pass
pub record IsNumberOf {X : Type 0} (g : X → ℕ) (p : X → Bool) (xs : List X) (d : X) (q : ℕ) : Type 0 where
  pub place : ℕ
  pub inside : place < length xs
  pub passes : p (get_or xs place d) ≡ true
  pub is : q ≡ g (get_or xs place d)

pub number_of : {X : Type 0} → (g : X → ℕ) (p : X → Bool) (xs : List X) (d : X) (q : ℕ) → list_any (eqb q) (map g (filter p xs)) ≡ true → IsNumberOf g p xs d q
number_of g p [] d q h = absurd (never_both false h refl)
number_of g p (x ∷ xs) d q h = elim (cases_Bool (p x)) [
  | inl t ↦ (let h' = rw t at h in elim (or_cases (eqb q (g x)) (list_any (eqb q) (map g (filter p xs))) h') [
    | inl e ↦ record { place = 0; inside = omega arith; passes = t; is = eqb-true q (g x) e }
    | inr r ↦ later (number_of g p xs d q r)
  ])
  | inr f ↦ (let h' = rw f at h in later (number_of g p xs d q h'))
]
  where
    later : IsNumberOf g p xs d q → IsNumberOf g p (x ∷ xs) d q
    later n = let inside = n.inside in record { place = suc n.place; inside = omega arith; passes = n.passes; is = n.is }

apart_from : {X : Type 0} → (g : X → ℕ) (p : X → Bool) (q : ℕ) (xs : List X) (d : X)
    → ((j : ℕ) → j < length xs → p (get_or xs j d) ≡ true → q ≡ g (get_or xs j d) → ⊥) → AllByRecursion (λ y. eqb q y ≡ false) (map g (filter p xs))
apart_from g p q [] d h = tt
apart_from g p q (x ∷ xs) d h = elim (cases_Bool (p x)) [
  | inl t ↦ rw t (no_test (eqb q (g x)) (λ e. h 0 (omega arith) t (eqb-true q (g x) e)), apart_from g p q xs d (λ j lt. h (suc j) (omega arith)))
  | inr f ↦ rw f (apart_from g p q xs d (λ j lt. h (suc j) (omega arith)))
]

-- where no two that pass have one number
pub distinct_kept : {X : Type 0} → (g : X → ℕ) (p : X → Bool) (xs : List X) (d : X)
    → ((i j : ℕ) → i < j → j < length xs → p (get_or xs i d) ≡ true → p (get_or xs j d) ≡ true → g (get_or xs i d) ≡ g (get_or xs j d) → ⊥)
    → IsDistinct eqb (map g (filter p xs))
unfolding IsDistinct
distinct_kept g p [] d h = tt
distinct_kept g p (x ∷ xs) d h = elim (cases_Bool (p x)) [
  | inl t ↦ rw t (
    apart_from g p (g x) xs d (λ j lt pj. h 0 (suc j) (omega arith) (omega arith) t pj),
    distinct_kept g p xs d (λ i j lt below. h (suc i) (suc j) (omega arith) (omega arith)),
  )
  | inr f ↦ rw f (distinct_kept g p xs d (λ i j lt below. h (suc i) (suc j) (omega arith) (omega arith)))
]

-- numbers that rise
pub distinct_rising : (xs : List ℕ) → IsStrictlyIncreasing xs → (i j : ℕ) → i < j → j < length xs → get_or xs i 0 ≡ get_or xs j 0 → ⊥
distinct_rising xs r i j lt inside e =
    let below : get_or xs i 0 < get_or xs j 0 = below_from_sorted xs i j 0 (sorted_from_strictly_increasing xs r) lt inside in
    omega arith

-- ---- lists that are joined

all_joined : (q : ℕ) (xs ys : List ℕ) → AllByRecursion (λ y. eqb q y ≡ false) xs → list_any (eqb q) ys ≡ false → AllByRecursion (λ y. eqb q y ≡ false) (xs ++ ys)
all_joined q [] [] a h = tt
all_joined q [] (y ∷ ys) a h = elim (cases_Bool (eqb q y)) [
  | inl t ↦ absurd (never_both (eqb q y || list_any (eqb q) ys) (or_left (eqb q y) (list_any (eqb q) ys) t) h)
  | inr f ↦ (f, all_joined q [] ys tt (no_test (list_any (eqb q) ys) (λ t. never_both (eqb q y || list_any (eqb q) ys) (or_right (eqb q y) (list_any (eqb q) ys) t) h)))
]
all_joined q (x ∷ xs) ys a h = (a.0, all_joined q xs ys a.1 h)

distinct_joined : (xs ys : List ℕ) → IsDistinct eqb xs → IsDistinct eqb ys → ((q : ℕ) → list_any (eqb q) xs ≡ true → list_any (eqb q) ys ≡ false)
    → IsDistinct eqb (xs ++ ys)
unfolding IsDistinct
distinct_joined [] ys a b h = b
distinct_joined (x ∷ xs) ys a b h = (
  all_joined x xs ys a.0 (h x (or_left (eqb x x) (list_any (eqb x) xs) (eq-eqb x x refl))),
  distinct_joined xs ys a.1 b (λ q s. h q (or_right (eqb q x) (list_any (eqb q) xs) s)),
)

pub any_either : (q : ℕ) (xs ys : List ℕ) → list_any (eqb q) (xs ++ ys) ≡ true → (list_any (eqb q) xs ≡ true) ⊎ (list_any (eqb q) ys ≡ true)
any_either q [] ys h = inr h
any_either q (x ∷ xs) ys h = elim (or_cases (eqb q x) (list_any (eqb q) (xs ++ ys)) h) [
  | inl e ↦ inl (or_left (eqb q x) (list_any (eqb q) xs) e)
  | inr r ↦ (elim (any_either q xs ys r) [ inl a ↦ inl (or_right (eqb q x) (list_any (eqb q) xs) a) | inr b ↦ inr b ])
]

-- what stands in one of the lists of the numbers from a to a + n
pub record StandsInOne (h : ℕ → List ℕ) (a n q : ℕ) : Type 0 where
  pub at : ℕ
  pub from : a ≤ at
  pub to : at < a + n
  pub stands : list_any (eqb q) (h at) ≡ true

pub stands_in_one : (h : ℕ → List ℕ) (a n q : ℕ) → list_any (eqb q) (flat_map h (range_with_len a n)) ≡ true → StandsInOne h a n q
stands_in_one h a zero q s = absurd (never_both false s refl)
stands_in_one h a (suc n) q s = elim (any_either q (h a) (flat_map h (range_with_len (a + 1) n)) s) [
  | inl here ↦ record { at = a; from = omega arith; to = omega arith; stands = here }
  | inr rest ↦ (
      let r : StandsInOne h (a + 1) n q = stands_in_one h (a + 1) n q rest in
      let low = r.from in
      let high = r.to in
      record { at = r.at; from = omega arith; to = omega arith; stands = r.stands })
]

-- lists of which each has none twice, and whose numbers tell which list they stand in
pub distinct_lists : (h : ℕ → List ℕ) (key : ℕ → ℕ) → ((k : ℕ) → IsDistinct eqb (h k)) → ((k q : ℕ) → list_any (eqb q) (h k) ≡ true → key q ≡ k) → (a n : ℕ)
    → IsDistinct eqb (flat_map h (range_with_len a n))
unfolding IsDistinct
distinct_lists h key each tells a zero = tt
distinct_lists h key each tells a (suc n) =
    distinct_joined (h a) (flat_map h (range_with_len (a + 1) n)) (each a) (distinct_lists h key each tells (a + 1) n)
    (λ q s. no_test (list_any (eqb q) (flat_map h (range_with_len (a + 1) n))) (λ t. (
    let r : StandsInOne h (a + 1) n q = stands_in_one h (a + 1) n q t in
    let low = r.from in
    let same : a ≡ r.at = sym (tells a q s) ∙ tells r.at q r.stands in
    absurd (omega arith))))

-- ---- lists of lists

pub flat_twice : {X Y Z : Type 0} → (g : Y → List Z) (h : X → List Y) (ks : List X) → flat_map g (flat_map h ks) ≡ flat_map (λ k. flat_map g (h k)) ks
flat_twice g h [] = refl
flat_twice g h (k ∷ ks) = flat_map-append g (h k) (flat_map h ks) ∙ ap (λ v. flat_map g (h k) ++ v) (flat_twice g h ks)

pub flat_same : {X Y : Type 0} → (g h : X → List Y) → ((k : X) → g k ≡ h k) → (ks : List X) → flat_map g ks ≡ flat_map h ks
flat_same g h e [] = refl
flat_same g h e (k ∷ ks) = ap (λ v. v ++ flat_map g ks) (e k) ∙ ap (λ v. h k ++ v) (flat_same g h e ks)

pub all_lists : {X Y : Type 0} → (P : Y → Type 0) (h : X → List Y) → ((k : X) → AllByRecursion P (h k)) → (ks : List X) → AllByRecursion P (flat_map h ks)
all_lists P h each [] = tt
all_lists P h each (k ∷ ks) = all_join P (h k) (flat_map h ks) (each k) (all_lists P h each ks)
