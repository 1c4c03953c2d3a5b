-- Lists of rows and of rings: what is so of each, the first that passes, rows that climb.
use Rattle.vpf_base.proofs.Lists.{all_joined as all_join}
use Rattle.std.proofs.Common.{◌≡◌, ℕ, zero, suc, ◌+◌, ◌<◌, ◌≤◌, Bool, true, false, cond, eqb, ◌||◌, refl, sym, ap, ◌∙◌, inl, inr, arith, List, [], ◌∷◌, ◌++◌, length, get_or, map}
use Rattle.std.specs.Prelude.{filter, flat_map}
use Rattle.std.specs.List.{list_any, AllByRecursion}
use Rattle.std.proofs.lemmas.Bool.{cases_Bool, or_cases, or_left, or_right, eqb-true, eq-eqb}
use Rattle.vpf_prims.specs.Lists.{kth, first_from, first_item}
use Rattle.vpf_tiling.specs.Ranks.{up_to, rank, numbered_from}
use Rattle.vpf_prims.specs.Numbering.{IsRowOf}
use Rattle.vpf_wing.specs.Inner.DartLaws.{never_both, stands_in}
use Rattle.vpf_tiling_laws.proofs.tiled.NameLemmas.{AtPlace, at_place}

pub all_get : {X : Type 0} → (P : X → Type 0) (xs : List X) (j : ℕ) (d : X) → AllByRecursion P xs → j < length xs → P (get_or xs j d)
all_get P [] j d a h = absurd (omega arith)
all_get P (x ∷ xs) zero d a h = a.0
all_get P (x ∷ xs) (suc j) d a h = all_get P xs j d a.1 (omega arith)

pub all_item : {X : Type 0} → (P : X → Type 0) (xs : List X) (k : ℕ) (d : X) → AllByRecursion P xs → IsRowOf (length xs) k → P (kth xs k d)
all_item P xs zero d a r = absurd (let b = r.0 in omega arith)
all_item P xs (suc j) d a r = (let b = r.1 in all_get P xs j d a (omega arith))

pub all_from : {X : Type 0} → (P : X → Type 0) (xs : List X) (d : X) → ((j : ℕ) → j < length xs → P (get_or xs j d)) → AllByRecursion P xs
all_from P [] d h = tt
all_from P (x ∷ xs) d h = (h 0 (omega arith), all_from P xs d (λ j lt. h (suc j) (omega (arith, lt))))

pub all_of : {X : Type 0} → (P : X → Type 0) (f : ℕ → X) (xs : List ℕ) → ((x : ℕ) → stands_in x xs ≡ true → P (f x)) → AllByRecursion P (map f xs)
all_of P f [] h = tt
all_of P f (x ∷ xs) h = (h x (or_left (eqb x x) (stands_in x xs) (eq-eqb x x refl)), all_of P f xs (λ y s. h y (or_right (eqb y x) (stands_in y xs) s)))

pub all_flat : {X : Type 0} → (P : X → Type 0) (f : ℕ → List X) (xs : List ℕ) → ((x : ℕ) → stands_in x xs ≡ true → AllByRecursion P (f x))
    → AllByRecursion P (flat_map f xs)
all_flat P f [] h = tt
all_flat P f (x ∷ xs) h =
    all_join P (f x) (flat_map f xs) (h x (or_left (eqb x x) (stands_in x xs) (eq-eqb x x refl)))
    (all_flat P f xs (λ y s. h y (or_right (eqb y x) (stands_in y xs) s)))

pub all_passing : {X Y : Type 0} → (P : Y → Type 0) (Q : X → Type 0) (g : X → Y) (p : X → Bool) (xs : List X) → AllByRecursion Q xs
    → ((x : X) → p x ≡ true → Q x → P (g x)) → AllByRecursion P (map g (filter p xs))
all_passing P Q g p [] a h = tt
all_passing P Q g p (x ∷ xs) a h = elim (cases_Bool (p x)) [
  | inl t ↦ rw t (h x t a.0, all_passing P Q g p xs a.1 h)
  | inr f ↦ rw f (all_passing P Q g p xs a.1 h)
]

pub stands_passing : (p : ℕ → Bool) (x : ℕ) (xs : List ℕ) → stands_in x (filter p xs) ≡ true → (p x ≡ true) × (stands_in x xs ≡ true)
stands_passing p x [] s = absurd (never_both false s refl)
stands_passing p x (y ∷ ys) s = elim (cases_Bool (p y)) [
  | inl t ↦ (let s' : stands_in x (y ∷ filter p ys) ≡ true = rw t at s in elim (or_cases (eqb x y) (stands_in x (filter p ys)) s') [
    | inl e ↦ (ap p (eqb-true x y e) ∙ t, or_left (eqb x y) (stands_in x ys) e)
    | inr r ↦ (let q = stands_passing p x ys r in (q.0, or_right (eqb x y) (stands_in x ys) q.1))
  ])
  | inr f ↦ (let s' : stands_in x (filter p ys) ≡ true = rw f at s in let q = stands_passing p x ys s' in (q.0, or_right (eqb x y) (stands_in x ys) q.1))
]

-- the number at row k of those that pass
pub record Passing (p : ℕ → Bool) (n k x : ℕ) : Type 0 where
  pub passes : p x ≡ true
  pub from_one : 1 ≤ x
  pub to_last : x ≤ n
  pub ranks : rank p x + 1 ≡ k

pub passing : (p : ℕ → Bool) → p 0 ≡ false → (n k : ℕ) → IsRowOf (length (filter p (up_to n))) k → Passing p n k (kth (filter p (up_to n)) k 0)
passing p z n zero r = absurd (let a = r.0 in omega arith)
passing p z n (suc j) r =
    (let b = r.1 in let a : AtPlace p n j (get_or (filter p (up_to n)) j 0) = at_place p z n j (omega arith) in let e = a.ranks in
    record { passes = a.passes; from_one = a.from_one; to_last = a.to_last; ranks = omega arith })

-- the first that passes, by its number
pub first_last : {X : Type 0} → (k : ℕ) (p : X → Bool) (xs : List X) → 1 ≤ k → first_from k p xs < length xs + k
first_last k p [] h = omega arith
first_last k p (x ∷ xs) h = elim (cases_Bool (p x)) [
  | inl t ↦ rw t (here (length xs) k)
  | inr f ↦ rw f (later (first_from (suc k) p xs) (length xs) k (first_last (suc k) p xs (omega arith)))
]
  where
    here : (n k : ℕ) → k < suc n + k
    here n k = omega arith

    later : (m n k : ℕ) → m < n + suc k → m < suc n + k
    later m n k h = omega arith

pub first_some : {X : Type 0} → (k : ℕ) (p : X → Bool) (xs : List X) → 1 ≤ k → list_any p xs ≡ true → 1 ≤ first_from k p xs
first_some k p [] h s = absurd (never_both false s refl)
first_some k p (x ∷ xs) h s = elim (cases_Bool (p x)) [
  | inl t ↦ rw t h
  | inr f ↦ rw f (first_some (suc k) p xs (omega arith) (sym (ap (λ b. b || list_any p xs) f) ∙ s))
]

pub some_first : {X : Type 0} → (k : ℕ) (p : X → Bool) (xs : List X) → 1 ≤ first_from k p xs → list_any p xs ≡ true
some_first k p [] h = absurd (omega arith)
some_first k p (x ∷ xs) h = elim (cases_Bool (p x)) [
  | inl t ↦ or_left (p x) (list_any p xs) t
  | inr f ↦ (let h' : 1 ≤ first_from (suc k) p xs = rw f at h in or_right (p x) (list_any p xs) (some_first (suc k) p xs h'))
]

-- the place of the first that passes
pub record FirstAt {X : Type 0} (p : X → Bool) (xs : List X) (d : X) (k n : ℕ) : Type 0 where
  pub place : ℕ
  pub below : place < length xs
  pub is : n ≡ place + k
  pub passes : p (get_or xs place d) ≡ true

pub first_at : {X : Type 0} → (p : X → Bool) (d : X) (k : ℕ) (xs : List X) → list_any p xs ≡ true → FirstAt p xs d k (first_from k p xs)
first_at p d k [] s = absurd (never_both false s refl)
first_at p d k (x ∷ xs) s = elim (cases_Bool (p x)) [
  | inl t ↦ rw t (record { place = 0; below = omega arith; is = (let e : k ≡ 0 + k = omega arith in e); passes = t })
  | inr f ↦ (
      let r : FirstAt p xs d (suc k) (first_from (suc k) p xs) = first_at p d (suc k) xs (sym (ap (λ b. b || list_any p xs) f) ∙ s) in
      let e : first_from k p (x ∷ xs) ≡ first_from (suc k) p xs = ap (λ b. cond b k (first_from (suc k) p xs)) f in
      let b = r.below in
      let i = r.is in
      record { place = suc r.place; below = omega arith; is = omega arith; passes = r.passes })
]

-- the first row that passes passes
pub record FirstRow {X : Type 0} (p : X → Bool) (xs : List X) (d : X) (n : ℕ) : Type 0 where
  pub row : IsRowOf (length xs) n
  pub passes : p (kth xs n d) ≡ true

pub first_row : {X : Type 0} → (p : X → Bool) (d : X) (xs : List X) → list_any p xs ≡ true → FirstRow p xs d (first_item p xs)
first_row p d xs s = (
    let r : FirstAt p xs d 1 (first_from 1 p xs) = first_at p d 1 xs s in
    let b = r.below in
    let i = r.is in
    let e : suc r.place ≡ first_from 1 p xs = omega arith in
    record { row = (omega arith, omega arith); passes = ap (λ n. p (kth xs n d)) (sym e) ∙ r.passes })

pub first_numbered : {X R : Type 0} → (row : ℕ → X → R) (p : R → Bool) (q : X → Bool) → ((j : ℕ) (x : X) → p (row j x) ≡ q x) → (k j : ℕ) (xs : List X)
    → first_from k p (numbered_from j row xs) ≡ first_from k q xs
first_numbered row p q h k j [] = refl
first_numbered row p q h k j (x ∷ xs) =
    ap (λ b. cond b k (first_from (suc k) p (numbered_from (suc j) row xs))) (h j x) ∙ ap (cond (q x) k) (first_numbered row p q h (suc k) (suc j) xs)

pub any_right : {X : Type 0} → (p : X → Bool) (xs ys : List X) → list_any p ys ≡ true → list_any p (xs ++ ys) ≡ true
any_right p [] ys h = h
any_right p (x ∷ xs) ys h = or_right (p x) (list_any p (xs ++ ys)) (any_right p xs ys h)

pub any_left : {X : Type 0} → (p : X → Bool) (xs ys : List X) → list_any p xs ≡ true → list_any p (xs ++ ys) ≡ true
any_left p [] ys h = absurd (never_both false h refl)
any_left p (x ∷ xs) ys h = elim (or_cases (p x) (list_any p xs) h) [
  | inl a ↦ or_left (p x) (list_any p (xs ++ ys)) a
  | inr b ↦ or_right (p x) (list_any p (xs ++ ys)) (any_left p xs ys b)
]

pub any_flat : {X : Type 0} → (p : X → Bool) (f : ℕ → List X) (x : ℕ) (xs : List ℕ) → stands_in x xs ≡ true → list_any p (f x) ≡ true
    → list_any p (flat_map f xs) ≡ true
any_flat p f x [] s h = absurd (never_both false s refl)
any_flat p f x (y ∷ ys) s h = elim (or_cases (eqb x y) (stands_in x ys) s) [
  | inl e ↦ any_left p (f y) (flat_map f ys) (ap (λ z. list_any p (f z)) (sym (eqb-true x y e)) ∙ h)
  | inr r ↦ any_right p (f y) (flat_map f ys) (any_flat p f x ys r h)
]

pub any_passing : {X Y : Type 0} → (q : Y → Bool) (g : X → Y) (p : X → Bool) (xs : List X) → ((x : X) → p x ≡ true → q (g x) ≡ true) → list_any p xs ≡ true
    → list_any q (map g (filter p xs)) ≡ true
any_passing q g p [] h s = absurd (never_both false s refl)
any_passing q g p (x ∷ xs) h s = elim (cases_Bool (p x)) [
  | inl t ↦ rw t (or_left (q (g x)) (list_any q (map g (filter p xs))) (h x t))
  | inr f ↦ rw f (any_passing q g p xs h (sym (ap (λ b. b || list_any p xs) f) ∙ s))
]

pub any_get : {X : Type 0} → (p : X → Bool) (xs : List X) (j : ℕ) (d : X) → j < length xs → p (get_or xs j d) ≡ true → list_any p xs ≡ true
any_get p [] j d lt h = absurd (omega arith)
any_get p (x ∷ xs) zero d lt h = or_left (p x) (list_any p xs) h
any_get p (x ∷ xs) (suc j) d lt h = or_right (p x) (list_any p xs) (any_get p xs j d (omega arith) h)

pub any_item : {X : Type 0} → (p : X → Bool) (xs : List X) (k : ℕ) (d : X) → IsRowOf (length xs) k → p (kth xs k d) ≡ true → list_any p xs ≡ true
any_item p xs zero d r h = absurd (let a = r.0 in omega arith)
any_item p xs (suc j) d r h = (let b = r.1 in any_get p xs j d (omega arith) h)
