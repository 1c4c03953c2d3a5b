-- The first item that passes.
use Rattle.std.proofs.Common.{◌≡◌, ℕ, zero, suc, ◌+◌, ◌<◌, ◌≤◌, Bool, true, cond, List, [], ◌∷◌, length, map, get_or, refl, sym, ap, subst, ◌∙◌, inl, inr, arith}
use Rattle.std.proofs.Math.ListN.{get_or-map}
use Rattle.std.proofs.lemmas.Bool.{cases_Bool}
use Rattle.vpf_prims.specs.Lists.{kth, first_from, first_item}
use Rattle.vpf_prims.specs.Numbering.{IsRowOf}

-- an item of a list that is made item by item
pub item-map : {X Y : Type 0} (f : X → Y) (xs : List X) (k : ℕ) (d : X) → kth (map f xs) k (f d) ≡ f (kth xs k d)
item-map f xs k d = get_or-map f (d ∷ xs) k d

pub first-map : {X Y : Type 0} (f : X → Y) (p : Y → Bool) (k : ℕ) (xs : List X) → first_from k p (map f xs) ≡ first_from k (λ x. p (f x)) xs
first-map f p k [] = refl
first-map f p k (x ∷ xs) = ap (λ v. cond (p (f x)) k v) (first-map f p (suc k) xs)

-- the first that passes is there, and passes
pub record Passes {X : Type 0} (p : X → Bool) (k n : ℕ) (xs : List X) (d : X) : Type 0 where
  pub place : ℕ
  pub below : place < length xs
  pub is : n ≡ place + k
  pub passes : p (get_or xs place d) ≡ true

first_from-is : {X : Type 0} (p : X → Bool) (k : ℕ) (xs : List X) (d : X) (n : ℕ) → first_from k p xs ≡ n → 1 ≤ n → Passes p k n xs d
first_from-is p k [] d n e h = absurd (let z : 0 ≡ n = e in omega arith)
first_from-is p k (x ∷ xs) d n e h = elim (cases_Bool (p x)) [
  | inl t ↦ (
      let e' : k ≡ n = sym (ap (λ b. cond b k (first_from (suc k) p xs)) t) ∙ e in
      record { place = 0; below = omega arith; is = omega arith; passes = t })
  | inr f ↦ (
      let e' : first_from (suc k) p xs ≡ n = sym (ap (λ b. cond b k (first_from (suc k) p xs)) f) ∙ e in
      let r : Passes p (suc k) n xs d = first_from-is p (suc k) xs d n e' h in
      let b = r.below in
      let i = r.is in
      record { place = suc r.place; below = omega arith; is = omega arith; passes = r.passes })
]

item_at : {X : Type 0} (p : X → Bool) (xs : List X) (d : X) (i n : ℕ) → n ≡ i + 1 → p (get_or xs i d) ≡ true → p (kth xs n d) ≡ true
item_at p xs d i n e h = let s : suc i ≡ n = omega arith in subst (λ k. p (kth xs k d) ≡ true) s h

pub first_row : {X : Type 0} (p : X → Bool) (xs : List X) (d : X) → 1 ≤ first_item p xs → IsRowOf (length xs) (first_item p xs)
first_row p xs d h = let r = first_from-is p 1 xs d (first_item p xs) refl h in let b = r.below in let i = r.is in (h, omega arith)

pub first_passes : {X : Type 0} (p : X → Bool) (xs : List X) (d : X) → 1 ≤ first_item p xs → p (kth xs (first_item p xs) d) ≡ true
first_passes p xs d h = let r = first_from-is p 1 xs d (first_item p xs) refl h in item_at p xs d r.place (first_item p xs) r.is r.passes

-- where one passes, the first is that one or before it
first_from-at : {X : Type 0} (p : X → Bool) (k : ℕ) (xs : List X) (d : X) (i : ℕ) → i < length xs → p (get_or xs i d) ≡ true
    → (k ≤ first_from k p xs) × (first_from k p xs ≤ k + i)
first_from-at p k [] d i h t = absurd (omega arith)
first_from-at p k (x ∷ xs) d zero h t = rw t (omega arith, omega arith)
first_from-at p k (x ∷ xs) d (suc i) h t = elim (cases_Bool (p x)) [
  | inl y ↦ rw y (omega arith, omega arith)
  | inr n ↦ (let r = first_from-at p (suc k) xs d i (omega arith) t in let a = r.0 in let b = r.1 in rw n (omega arith, omega arith))
]

pub first_at : {X : Type 0} (p : X → Bool) (xs : List X) (d : X) (k : ℕ) → IsRowOf (length xs) k → p (kth xs k d) ≡ true
    → (1 ≤ first_item p xs) × (first_item p xs ≤ k)
first_at p xs d zero row t = absurd (let a = row.0 in omega arith)
first_at p xs d (suc i) row t =
    let b = row.1 in
    let r = first_from-at p 1 xs d i (omega arith) t in
    let low = r.0 in
    let high = r.1 in
    (omega arith, omega arith)
