-- Lists of which one holds each number at least as often as the other, and the places of a key in a list.
use Rattle.std.proofs.Common.{[], ◌≡◌, ℕ, suc, ◌+◌, ◌-◌, ◌<◌, ◌≤◌, cond, eqb, List, ◌∷◌, ◌++◌, length, get_or, refl, sym, ap, subst, ◌∙◌, arith, inl, inr, length-append}
use Rattle.std.proofs.lemmas.Bool.{cases_eq}
use Rattle.vpf_darts.specs.Cycles.{count_of}
use Rattle.vpf_darts.specs.Inner.CycleLaws.{count_of-append, count_of-here, count_of-step, count_of-not_here, count_of-equal}
use Rattle.vpf_wing.proofs.LawFacts.{same, apart, zero_or_some}

-- a list that holds x is split at it
record SplitsAt (x : ℕ) (ys : List ℕ) : Type 0 where
  pub before : List ℕ
  pub after : List ℕ
  pub is : ys ≡ before ++ x ∷ after

splits_at : (x : ℕ) (ys : List ℕ) → 0 < count_of x ys → SplitsAt x ys
splits_at x [] h = absurd (omega arith)
splits_at x (y ∷ ys) h = elim (cases_eq y x) [
  | inl e ↦ record { before = []; after = ys; is = ap (λ v. v ∷ ys) e }
  | inr ne ↦ (
      let r : SplitsAt x ys = splits_at x ys (count_of-not_here y x ys ne h) in
      record { before = y ∷ r.before; after = r.after; is = ap (λ v. y ∷ v) r.is })
]

pub count_of-cons : (d x : ℕ) (xs : List ℕ) → count_of d (x ∷ xs) ≡ count_of d (x ∷ []) + count_of d xs
count_of-cons d x xs = count_of-append d (x ∷ []) xs

count_of-split : (d x : ℕ) (front back : List ℕ) → count_of d (front ++ x ∷ back) ≡ count_of d (x ∷ []) + count_of d (front ++ back)
count_of-split d x front back = omega (arith, count_of-append d front (x ∷ back), count_of-append d front back, count_of-cons d x back)

pub shorter : (xs ys : List ℕ) → ((d : ℕ) → count_of d xs ≤ count_of d ys) → length xs ≤ length ys
shorter [] ys le = omega arith
shorter (x ∷ xs) ys le =
    let here : 0 < count_of x (x ∷ xs) = count_of-here x xs in
    let some : 0 < count_of x ys = omega (arith, le x) in
    let s : SplitsAt x ys = splits_at x ys some in
    let ih : length xs ≤ length (s.before ++ s.after) = shorter xs (s.before ++ s.after) (λ d.
    let a : count_of d (x ∷ xs) ≤ count_of d ys = le d in
    let b : count_of d ys ≡ count_of d (x ∷ []) + count_of d (s.before ++ s.after) = ap (count_of d) s.is ∙ count_of-split d x s.before s.after in
    omega (arith, count_of-cons d x xs)) in
    let n : length ys ≡ length (s.before ++ x ∷ s.after) = ap length s.is in
    omega (arith, length-append s.before (x ∷ s.after), length-append s.before s.after)

-- and of one length they hold the same
pub same_counts : (xs ys : List ℕ) → ((d : ℕ) → count_of d xs ≤ count_of d ys) → length ys ≤ length xs → (d : ℕ) → count_of d ys ≤ count_of d xs
same_counts [] [] le len d = omega arith
same_counts [] (y ∷ ys) le len d = absurd (omega arith)
same_counts (x ∷ xs) ys le len d =
    let here : 0 < count_of x (x ∷ xs) = count_of-here x xs in
    let some : 0 < count_of x ys = omega (arith, le x) in
    let s : SplitsAt x ys = splits_at x ys some in
    let n : length ys ≡ length (s.before ++ x ∷ s.after) = ap length s.is in
    let len' : length (s.before ++ s.after) ≤ length xs = omega (arith, length-append s.before (x ∷ s.after), length-append s.before s.after) in
    let ih : count_of d (s.before ++ s.after) ≤ count_of d xs = same_counts xs (s.before ++ s.after) (λ e.
    let a : count_of e (x ∷ xs) ≤ count_of e ys = le e in
    let b : count_of e ys ≡ count_of e (x ∷ []) + count_of e (s.before ++ s.after) = ap (count_of e) s.is ∙ count_of-split e x s.before s.after in
    omega (arith, count_of-cons e x xs)) len' d in
    let b : count_of d ys ≡ count_of d (x ∷ []) + count_of d (s.before ++ s.after) = ap (count_of d) s.is ∙ count_of-split d x s.before s.after in
    omega (arith, count_of-cons d x xs)

-- the places of a key, from k on
abbrev pub places_of : ℕ → ℕ → List ℕ → List ℕ
places_of key k [] = []
places_of key k (x ∷ xs) = cond (eqb x key) (k ∷ places_of key (suc k) xs) (places_of key (suc k) xs)

places_of-here : (key k x : ℕ) (xs : List ℕ) → x ≡ key → places_of key k (x ∷ xs) ≡ k ∷ places_of key (suc k) xs
places_of-here key k x xs e = rw (same x key e) refl

places_of-other : (key k x : ℕ) (xs : List ℕ) → (x ≡ key → ⊥) → places_of key k (x ∷ xs) ≡ places_of key (suc k) xs
places_of-other key k x xs ne = rw (apart x key ne) refl

pub length-places_of : (key k : ℕ) (xs : List ℕ) → length (places_of key k xs) ≡ count_of key xs
length-places_of key k [] = refl
length-places_of key k (x ∷ xs) = elim (cases_eq x key) [
  | inl e ↦ rw (places_of-here key k x xs e) (omega (arith, length-places_of key (suc k) xs, count_of-equal x key xs e))
  | inr ne ↦ rw (places_of-other key k x xs ne) (length-places_of key (suc k) xs ∙ sym (count_of-step x key xs ne))
]

pub record IsPlace (key k d : ℕ) (xs : List ℕ) : Type 0 where
  pub low : k ≤ d
  pub high : d < k + length xs
  pub key_is : get_or xs (d - k) 0 ≡ key

pub places_of-some : (key k : ℕ) (xs : List ℕ) (d : ℕ) → 0 < count_of d (places_of key k xs) → IsPlace key k d xs
places_of-some key k [] d h = absurd (omega arith)
places_of-some key k (x ∷ xs) d h =
    let later : 0 < count_of d (places_of key (suc k) xs) → IsPlace key k d (x ∷ xs) = λ some. (
    let r : IsPlace key (suc k) d xs = places_of-some key (suc k) xs d some in
    let e : d - k ≡ suc (d - suc k) = omega (arith, r.low) in
    record { low = omega (arith, r.low); high = omega (arith, r.high); key_is = rw e r.key_is }) in
    elim (cases_eq x key) [
      | inl one ↦ (
          let h' : 0 < count_of d (k ∷ places_of key (suc k) xs) = subst (λ v. 0 < count_of d v) (places_of-here key k x xs one) h in
          elim (cases_eq k d) [
            | inl e ↦ (let z : d - k ≡ 0 = omega arith in record { low = omega arith; high = omega arith; key_is = rw z one })
            | inr ne ↦ later (count_of-not_here k d (places_of key (suc k) xs) ne h')
          ])
      | inr other ↦ later (subst (λ v. 0 < count_of d v) (places_of-other key k x xs other) h)
    ]

pub places_of-has : (key k : ℕ) (xs : List ℕ) (d : ℕ) → k ≤ d → d < k + length xs → get_or xs (d - k) 0 ≡ key → 0 < count_of d (places_of key k xs)
places_of-has key k [] d low high is = absurd (omega arith)
places_of-has key k (x ∷ xs) d low high is = elim (cases_eq k d) [
  | inl e ↦ (
      let z : d - k ≡ 0 = omega arith in
      let is' : x ≡ key = rw z at is in
      rw (places_of-here key k x xs is', e) (count_of-here d (places_of key (suc d) xs)))
  | inr ne ↦ (
      let s : d - k ≡ suc (d - suc k) = omega arith in
      let is' : get_or xs (d - suc k) 0 ≡ key = rw s at is in
      let ih : 0 < count_of d (places_of key (suc k) xs) = places_of-has key (suc k) xs d (omega arith) (omega arith) is' in
      elim (cases_eq x key) [
        | inl one ↦ rw (places_of-here key k x xs one) (omega (arith, count_of-cons d k (places_of key (suc k) xs)))
        | inr other ↦ rw (places_of-other key k x xs other) ih
      ])
]

pub places_of-once : (key k : ℕ) (xs : List ℕ) (d : ℕ) → count_of d (places_of key k xs) ≤ 1
places_of-once key k [] d = omega arith
places_of-once key k (x ∷ xs) d = elim (cases_eq x key) [
  | inr other ↦ rw (places_of-other key k x xs other) (places_of-once key (suc k) xs d)
  | inl one ↦ rw (places_of-here key k x xs one) (elim (cases_eq k d) [
    | inr ne ↦ rw (count_of-step k d (places_of key (suc k) xs) ne) (places_of-once key (suc k) xs d)
    | inl e ↦ (
        let none : count_of d (places_of key (suc k) xs) ≡ 0 = elim (zero_or_some (count_of d (places_of key (suc k) xs))) [
          | inl z ↦ z
          | inr some ↦ (let r : IsPlace key (suc k) d xs = places_of-some key (suc k) xs d some in absurd (omega (arith, r.low)))
        ] in
        omega (arith, count_of-equal k d (places_of key (suc k) xs) e))
  ])
]
