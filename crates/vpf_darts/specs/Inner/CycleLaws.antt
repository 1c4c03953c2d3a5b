-- Laws.
use Rattle.std.proofs.Common.{[], ◌≡◌, ℕ, ◌+◌, ◌<◌, List, ◌∷◌, ◌++◌, map, refl, sym, ap, ◌∙◌, arith, ◌≤◌, length, inl, inr}
use Rattle.std.proofs.lemmas.Bool.Decides.{nat_tests}
use Rattle.vpf_darts.specs.Cycles.{count_of, IsCycle, first_of}
use Rattle.std.proofs.lemmas.Bool.{cases_eq}
use Rattle.std.specs.List.{AllByRecursion}

pub count_of-append : (d : ℕ) (xs ys : List ℕ) → count_of d (xs ++ ys) ≡ count_of d xs + count_of d ys
count_of-append d [] ys = omega arith
count_of-append d (x ∷ xs) ys = omega (arith, count_of-append d xs ys)

pub count_of-here : (x : ℕ) (xs : List ℕ) → 0 < count_of x (x ∷ xs)
count_of-here x xs = grind (arith, nat_tests)

pub count_of-not_here : (x y : ℕ) (xs : List ℕ) → (x ≡ y → ⊥) → 0 < count_of y (x ∷ xs) → 0 < count_of y xs
count_of-not_here x y xs ne h = grind (arith, nat_tests)

pub count_of-step : (x y : ℕ) (xs : List ℕ) → (x ≡ y → ⊥) → count_of y (x ∷ xs) ≡ count_of y xs
count_of-step x y xs ne = grind (arith, nat_tests)

pub count_of-map : (next : ℕ → ℕ) → ((d e : ℕ) → next d ≡ next e → d ≡ e) → (d : ℕ) (xs : List ℕ) → count_of (next d) (map next xs) ≡ count_of d xs
count_of-map next apart d [] = refl
count_of-map next apart d (x ∷ xs) =
    let same : x ≡ d → next x ≡ next d = λ e. ap next e in
    let back : next x ≡ next d → x ≡ d = λ e. apart x d e in
    let ih : count_of (next d) (map next xs) ≡ count_of d xs = count_of-map next apart d xs in
    grind (arith, nat_tests)

-- the nexts of a cycle are counted as its darts are
pub count_of-cycle : (next : ℕ → ℕ) (xs : List ℕ) → IsCycle next xs → (y : ℕ) → count_of y (map next xs) ≡ count_of y xs
count_of-cycle next [] h y = refl
count_of-cycle next (x ∷ xs) h y =
    let turned : count_of y (map next (x ∷ xs)) ≡ count_of y (xs ++ x ∷ []) = ap (count_of y) h in
    let same : count_of y (xs ++ x ∷ []) ≡ count_of y (x ∷ xs) = rw count_of-append (omega arith) in
    turned ∙ same

-- a cycle holds the next of a dart as often as the dart
pub count_of-next : (next : ℕ → ℕ) → ((d e : ℕ) → next d ≡ next e → d ≡ e) → (xs : List ℕ) → IsCycle next xs → (d : ℕ) → count_of (next d) xs ≡ count_of d xs
count_of-next next apart xs h d = sym (count_of-cycle next xs h (next d)) ∙ count_of-map next apart d xs

pub count_of-equal : (x y : ℕ) (xs : List ℕ) → x ≡ y → count_of y (x ∷ xs) ≡ 1 + count_of y xs
count_of-equal x y xs e = grind (arith, nat_tests)

pub count_of-last : (x : ℕ) (xs : List ℕ) → count_of x xs + count_of x (x ∷ []) ≡ count_of x xs + 1
count_of-last x xs = grind (arith, nat_tests)

pub map-append : (f : ℕ → ℕ) (xs ys : List ℕ) → map f (xs ++ ys) ≡ map f xs ++ map f ys
map-append f [] ys = refl
map-append f (x ∷ xs) ys = ap (λ zs. f x ∷ zs) (map-append f xs ys)

-- a walk from s whose darts so far are xs, and whose dart at hand is x
abbrev pub IsDartWalk : (ℕ → ℕ) → ℕ → List ℕ → ℕ → Type 0
IsDartWalk next s xs x = s ∷ map next xs ≡ xs ++ x ∷ []

pub IsWalk-more : (next : ℕ → ℕ) (s : ℕ) (xs : List ℕ) (x : ℕ) → IsDartWalk next s xs x → IsDartWalk next s (xs ++ x ∷ []) (next x)
IsWalk-more next s xs x h = rw map-append (ap (λ zs. zs ++ next x ∷ []) h)

pub IsCycle-from_walk : (next : ℕ → ℕ) (s : ℕ) (xs : List ℕ) → 0 < length xs → IsDartWalk next s xs s → IsCycle next xs
IsCycle-from_walk next s [] few h = absurd (omega arith)
IsCycle-from_walk next s (x ∷ xs) few h = let e : x ≡ s = cc in cc

-- what is counted among the images is the image of one that is counted
pub preimage : (next : ℕ → ℕ) (y : ℕ) (xs : List ℕ) → 0 < count_of y (map next xs) → (w : ℕ) × (0 < count_of w xs) × (next w ≡ y)
preimage next y [] h = absurd (omega arith)
preimage next y (x ∷ xs) h = elim (cases_eq (next x) y) [
  | inl e ↦ (let one : 0 < count_of x (x ∷ xs) = count_of-here x xs in (x, one, e))
  | inr ne ↦ (let more : 0 < count_of y (map next xs) = count_of-not_here (next x) y (map next xs) ne h in
      let r : (w : ℕ) × (0 < count_of w xs) × (next w ≡ y) = preimage next y xs more in
      (r.0, omega (arith, r.1), r.2))
]

-- what a walk has come to again is where it began
pub IsWalk-at_start : (next : ℕ → ℕ) → ((d e : ℕ) → next d ≡ next e → d ≡ e) → (s : ℕ) (xs : List ℕ) (x : ℕ) → IsDartWalk next s xs x → ((y : ℕ) → count_of y xs ≤ 1) → 0 < count_of x xs → x ≡ s
IsWalk-at_start next apart s xs x walk once h = elim (cases_eq s x) [
  | inl e ↦ sym e
  | inr ne ↦ (
      let two : count_of x (s ∷ map next xs) ≡ count_of x (xs ++ x ∷ []) = ap (count_of x) walk in
      let last : count_of x (xs ++ x ∷ []) ≡ count_of x xs + 1 = rw count_of-append (count_of-last x xs) in
      let more : 0 < count_of x (map next xs) = count_of-not_here s x (map next xs) ne (omega arith) in
      let w : (w : ℕ) × (0 < count_of w xs) × (next w ≡ x) = preimage next x xs more in
      let same : count_of (next w.0) (map next xs) ≡ count_of w.0 xs = count_of-map next apart w.0 xs in
      let same' : count_of x (map next xs) ≡ count_of w.0 xs = rw w.2 at same in
      let le : count_of w.0 xs ≤ 1 = once w.0 in
      let none : count_of x (s ∷ map next xs) ≡ count_of x (map next xs) = count_of-step s x (map next xs) ne in
      absurd (omega arith))
]

pub first_of-walk : (next : ℕ → ℕ) (s : ℕ) (xs : List ℕ) (x : ℕ) → 0 < length xs → IsDartWalk next s xs x → first_of xs ≡ s
first_of-walk next s [] x few h = absurd (omega arith)
first_of-walk next s (y ∷ xs) x few h = cc

pub length-counted : (x : ℕ) (xs : List ℕ) → 0 < count_of x xs → 0 < length xs
length-counted x [] h = absurd (omega arith)
length-counted x (y ∷ xs) h = omega arith

pub each-counted : (P : ℕ → Type 0) (xs : List ℕ) → ((y : ℕ) → 0 < count_of y xs → P y) → AllByRecursion P xs
each-counted P [] all = tt
each-counted P (x ∷ xs) all = (all x (count_of-here x xs), each-counted P xs (λ y h. all y (omega (arith, h))))
