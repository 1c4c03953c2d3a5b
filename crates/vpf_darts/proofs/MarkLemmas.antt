-- Marks of darts that a walk has passed.
use Rattle.std.proofs.Common.{[], ◌≡◌, ◌≢◌, ℕ, zero, suc, ◌+◌, ◌<◌, ◌≤◌, Bool, true, false, cond, List, ◌∷◌, ◌++◌, length, set, get_or, get_or-set_same, get_or-set_other, refl, sym, ◌∙◌, inl, inr, arith}
use Rattle.std.proofs.lemmas.Bool.{cases_eq, cases_Bool}
use Rattle.std.proofs.lemmas.Bool.Decides.{nat_tests}
use Rattle.vpf_darts.specs.Cycles.{count_of, IsCycle}
use Rattle.vpf_darts.specs.Inner.Ranks.{marked, IsClosed, Marks}
use Rattle.vpf_darts.specs.Inner.CycleLaws.{count_of-append, count_of-step, count_of-next}

pub cond-le : (b : Bool) → cond b 1 0 ≤ 1
cond-le true = omega arith
cond-le false = omega arith

-- the default of an element in range does not matter
pub any_default : {A : Type 0} → (xs : List A) (i : ℕ) (a b : A) → i < length xs → get_or xs i a ≡ get_or xs i b
any_default [] i a b h = absurd (omega arith)
any_default (x ∷ xs) zero a b h = refl
any_default (x ∷ xs) (suc i) a b h = any_default xs i a b (omega arith)

-- a mark that is read, whatever stands for those out of range
pub mark_read : (marks : List Bool) (k : ℕ) (mark read beyond : Bool) → k < length marks → read ≡ get_or marks k read → read ≡ mark → get_or marks k beyond ≡ mark
mark_read marks k mark read beyond h is e = any_default marks k beyond read h ∙ sym is ∙ e

-- one more rank is marked
pub Marks-more : (old : ℕ → Bool) (marks : List Bool) (xs : List ℕ) (at : ℕ) → at < length marks → marked marks at ≡ false → Marks old (marked marks) xs → Marks old (marked (set marks at true)) (xs ++ at ∷ [])
Marks-more old marks xs at in' unmarked so_far d =
    let h : cond (marked marks d) 1 0 ≡ cond (old d) 1 0 + count_of d xs = so_far d in
    rw count_of-append (elim (cases_eq at d) [
      | inl e ↦ (
          let h' : cond (marked marks at) 1 0 ≡ cond (old at) 1 0 + count_of at xs = so_far at in
          let h'' : 0 ≡ cond (old at) 1 0 + count_of at xs = rw unmarked at h' in
          rw (← e, get_or-set_same marks at true true in') (grind (arith, nat_tests)))
      | inr ne ↦ (
          let other : d ≢ at = λ e. ne (sym e) in
          let none : count_of d (at ∷ []) ≡ 0 = count_of-step at d [] ne in
          rw (get_or-set_other marks at d true true other, none) (omega arith))
    ])

pub Marks-once : (old new : ℕ → Bool) (xs : List ℕ) → Marks old new xs → (y : ℕ) → count_of y xs ≤ 1
Marks-once old new xs marks y =
    let h : cond (new y) 1 0 ≡ cond (old y) 1 0 + count_of y xs = marks y in
    omega (arith, cond-le (new y))

-- what is marked now, and was not, is one of the list
pub Marks-new : (old new : ℕ → Bool) (xs : List ℕ) → Marks old new xs → (y : ℕ) → new y ≡ true → old y ≡ false → 0 < count_of y xs
Marks-new old new xs marks y now before =
    let h : cond (new y) 1 0 ≡ cond (old y) 1 0 + count_of y xs = marks y in
    let h' : 1 ≡ 0 + count_of y xs = rw (now, before) at h in
    omega arith

-- what is marked stays marked
pub Marks-keep : (old new : ℕ → Bool) (xs : List ℕ) → Marks old new xs → (d : ℕ) → old d ≡ true → new d ≡ true
Marks-keep old new xs m d h =
    let e : cond (new d) 1 0 ≡ cond (old d) 1 0 + count_of d xs = m d in
    let e' : cond (new d) 1 0 ≡ 1 + count_of d xs = rw h at e in
    elim (cases_Bool (new d)) [ inl t ↦ t | inr f ↦ (let e'' : 0 ≡ 1 + count_of d xs = rw f at e' in absurd (omega arith)) ]

-- a rank of the list is marked
pub Marks-has : (old new : ℕ → Bool) (xs : List ℕ) → Marks old new xs → (d : ℕ) → 0 < count_of d xs → new d ≡ true
Marks-has old new xs m d h =
    let e : cond (new d) 1 0 ≡ cond (old d) 1 0 + count_of d xs = m d in
    elim (cases_Bool (new d)) [ inl t ↦ t | inr f ↦ (let e'' : 0 ≡ cond (old d) 1 0 + count_of d xs = rw f at e in absurd (omega arith)) ]

pub Marks-join : (first old new : ℕ → Bool) (xs ys : List ℕ) → Marks first old xs → Marks old new ys → Marks first new (xs ++ ys)
Marks-join first old new xs ys a b d = rw count_of-append (omega (arith, a d, b d))

pub same_by_number : (a b : Bool) → ◌≡◌ {A = ℕ} (cond a 1 0) (cond b 1 0) → a ≡ b
same_by_number true true h = refl
same_by_number true false h = absurd (omega arith)
same_by_number false true h = absurd (omega arith)
same_by_number false false h = refl

-- a closed set of marks with a whole cycle more is closed
pub closed_after : (next : ℕ → ℕ) (xs : List ℕ) (old new : ℕ → Bool) → ((d e : ℕ) → next d ≡ next e → d ≡ e) → IsCycle next xs → IsClosed next old → Marks old new xs → IsClosed next new
closed_after next xs old new apart cycle closed marks d =
    let a : cond (new (next d)) 1 0 ≡ cond (old (next d)) 1 0 + count_of (next d) xs = marks (next d) in
    let b : cond (new d) 1 0 ≡ cond (old d) 1 0 + count_of d xs = marks d in
    let same : count_of (next d) xs ≡ count_of d xs = count_of-next next apart xs cycle d in
    let before : old (next d) ≡ old d = closed d in
    let a' : cond (new (next d)) 1 0 ≡ cond (old d) 1 0 + count_of d xs = rw (before, same) at a in
    same_by_number (new (next d)) (new d) (a' ∙ sym b)
