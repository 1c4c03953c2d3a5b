-- Walks along a permutation of the numbers below a bound: each comes back, and what is on one cycle has one least number.
use Rattle.std.proofs.Common.{[], ◌≡◌, ℕ, zero, suc, ◌+◌, ◌-◌, ◌*◌, ◌<◌, ◌≤◌, min, List, ◌∷◌, ◌++◌, map, length, refl, sym, ap, subst, ◌∙◌, arith, inl, inr}
use Rattle.std.proofs.lemmas.Bool.{cases_lt}
use Rattle.vpf_darts.specs.Cycles.{IsCycle, first_of}
use Rattle.vpf_darts.specs.Inner.OrbitLaws.{Returns, returns, few_from_once}
use Rattle.vpf_wing.specs.Walks.{Steps, LeadsTo, least_after}

abbrev pub KeepsApart : (ℕ → ℕ) → Type 0
KeepsApart next = (d e : ℕ) → next d ≡ next e → d ≡ e

abbrev pub StaysBelow : (ℕ → ℕ) → ℕ → Type 0
StaysBelow next n = (d : ℕ) → d < n → next d < n

-- what is k steps after a number
abbrev pub after : (ℕ → ℕ) → ℕ → ℕ → ℕ
after next zero x = x
after next (suc k) x = after next k (next x)

pub steps_is : (next : ℕ → ℕ) (k x y : ℕ) → Steps next k x y → after next k x ≡ y
steps_is next zero x y h = h
steps_is next (suc k) x y h = steps_is next k (next x) y h

pub steps_from : (next : ℕ → ℕ) (k x y : ℕ) → after next k x ≡ y → Steps next k x y
steps_from next zero x y h = h
steps_from next (suc k) x y h = steps_from next k (next x) y h

pub after-add : (next : ℕ → ℕ) (j k x : ℕ) → after next (j + k) x ≡ after next k (after next j x)
after-add next zero k x = let e : zero + k ≡ k = omega arith in rw e refl
after-add next (suc j) k x = let e : suc j + k ≡ suc (j + k) = omega arith in rw e (after-add next j k (next x))

pub after-last : (next : ℕ → ℕ) (k x : ℕ) → after next (suc k) x ≡ next (after next k x)
after-last next zero x = refl
after-last next (suc k) x = after-last next k (next x)

pub after-below : (next : ℕ → ℕ) (n : ℕ) → StaysBelow next n → (k x : ℕ) → x < n → after next k x < n
after-below next n inside zero x h = h
after-below next n inside (suc k) x h = after-below next n inside k (next x) (inside x h)

-- what leads on leads on further
pub leads_on : (next : ℕ → ℕ) (x y z : ℕ) → LeadsTo next x y → LeadsTo next y z → LeadsTo next x z
leads_on next x y z a b =
    (a.0 + b.0, steps_from next (a.0 + b.0) x z (after-add next a.0 b.0 x ∙ ap (after next b.0) (steps_is next a.0 x y a.1) ∙ steps_is next b.0 y z b.1))

-- steps that come back to their start
pub record ComesBack (next : ℕ → ℕ) (n s : ℕ) : Type 0 where
  pub steps : ℕ
  pub some : 0 < steps
  pub few : steps ≤ n
  pub back : after next steps s ≡ s

walk_round : (next : ℕ → ℕ) (s d : ℕ) (xs : List ℕ) → map next (d ∷ xs) ≡ xs ++ s ∷ [] → after next (suc (length xs)) d ≡ s
walk_round next s d [] h = let e : next d ≡ s = cc in e
walk_round next s d (x ∷ xs) h =
    let first : next d ≡ x = cc in
    let rest : map next (x ∷ xs) ≡ xs ++ s ∷ [] = cc in
    ap (after next (suc (length xs))) first ∙ walk_round next s x xs rest

back_by : (next : ℕ → ℕ) (n s : ℕ) (darts : List ℕ) → IsCycle next darts → first_of darts ≡ s → length darts ≤ n → ComesBack next n s
back_by next n s [] cycle first few = absurd cycle
back_by next n s (x ∷ xs) cycle first few = record {
  steps = suc (length xs);
  some = omega arith;
  few = omega arith;
  back = subst (λ v. after next (suc (length xs)) v ≡ v) first (walk_round next x x xs cycle);
}

pub round_of : (next : ℕ → ℕ) (n s : ℕ) → KeepsApart next → StaysBelow next n → s < n → Returns next (λ d. d < n) s
round_of next n s apart inside h = returns next n s (λ d. d < n) apart (λ d lt. lt) inside h

pub comes_back : (next : ℕ → ℕ) (n s : ℕ) → KeepsApart next → StaysBelow next n → s < n → ComesBack next n s
comes_back next n s apart inside h =
    let r = round_of next n s apart inside h in
    back_by next n s r.darts r.cycle r.first (few_from_once r.darts n r.once r.hold)

-- any number of rounds comes back
rounds : (next : ℕ → ℕ) (p x : ℕ) → after next p x ≡ x → (m : ℕ) → after next (m * p) x ≡ x
rounds next p x back zero = let e : zero * p ≡ zero = omega arith in rw e refl
rounds next p x back (suc m) =
    let e : suc m * p ≡ p + m * p = grind arith in
    rw e (after-add next p (m * p) x ∙ ap (after next (m * p)) back ∙ rounds next p x back m)

-- where steps lead from d to e, steps lead back
pub leads_back : (next : ℕ → ℕ) (n : ℕ) → KeepsApart next → StaysBelow next n → (d e : ℕ) → d < n → LeadsTo next d e → LeadsTo next e d
leads_back next n apart inside d e h to =
    let b : ComesBack next n d = comes_back next n d apart inside h in
    let some = b.some in
    let le : to.0 ≤ to.0 * b.steps = grind arith in
    let m : to.0 * b.steps ≡ to.0 + (to.0 * b.steps - to.0) = omega arith in
    let all : after next (to.0 * b.steps) d ≡ d = rounds next b.steps d b.back to.0 in
    let is : after next to.0 d ≡ e = steps_is next to.0 d e to.1 in
    let k : ℕ = to.0 * b.steps - to.0 in
    (k, steps_from next k e d (ap (after next k) (sym is) ∙ sym (after-add next to.0 k d) ∙ ap (λ v. after next v d) (sym m) ∙ all))

-- the least of the numbers after x is below each of the first n
least_le : (next : ℕ → ℕ) (n k x : ℕ) → k ≤ n → least_after next n x ≤ after next k x
least_le next zero zero x h = omega arith
least_le next zero (suc k) x h = absurd (omega arith)
least_le next (suc n) zero x h = omega arith
least_le next (suc n) (suc k) x h = let ih : least_after next n (next x) ≤ after next k (next x) = least_le next n k (next x) (omega arith) in omega arith

-- and below all that come, however late
least_le_all : (next : ℕ → ℕ) (n p x : ℕ) → 0 < p → p ≤ n → after next p x ≡ x → (fuel j : ℕ) → j ≤ fuel → least_after next n x ≤ after next j x
least_le_all next n p x pos le back zero j h = least_le next n j x (omega arith)
least_le_all next n p x pos le back (suc fuel) j h = elim (cases_lt n j) [
  | inr few ↦ least_le next n j x few
  | inl many ↦ (
      let e : j ≡ p + (j - p) = omega arith in
      let here : after next j x ≡ after next (j - p) x = ap (λ v. after next v x) e ∙ after-add next p (j - p) x ∙ ap (after next (j - p)) back in
      rw here (least_le_all next n p x pos le back fuel (j - p) (omega arith)))
]

-- and it is one of them
least_some : (next : ℕ → ℕ) (n x : ℕ) → (k : ℕ) × (after next k x ≡ least_after next n x)
least_some next zero x = (0, refl)
least_some next (suc n) x = elim (cases_lt (least_after next n (next x)) x) [
  | inl lt ↦ (
      let r : (k : ℕ) × (after next k (next x) ≡ least_after next n (next x)) = least_some next n (next x) in
      let m : min x (least_after next n (next x)) ≡ least_after next n (next x) = omega arith in
      (suc r.0, rw m r.1))
  | inr ge ↦ (let m : min x (least_after next n (next x)) ≡ x = omega arith in (0, sym m))
]

-- steps lead to the least
pub leads_to_least : (next : ℕ → ℕ) (n x : ℕ) → LeadsTo next x (least_after next n x)
leads_to_least next n x = let r = least_some next n x in (r.0, steps_from next r.0 x (least_after next n x) r.1)

pub least_below : (next : ℕ → ℕ) (n x : ℕ) → StaysBelow next n → x < n → least_after next n x < n
least_below next n x inside h = let r = least_some next n x in subst (λ v. v < n) r.1 (after-below next n inside r.0 x h)

-- the least is below all that steps lead to
pub least_le_led : (next : ℕ → ℕ) (n : ℕ) → KeepsApart next → StaysBelow next n → (d e : ℕ) → d < n → LeadsTo next d e → least_after next n d ≤ e
least_le_led next n apart inside d e h to =
    let b : ComesBack next n d = comes_back next n d apart inside h in
    subst (λ v. least_after next n d ≤ v) (steps_is next to.0 d e to.1) (least_le_all next n b.steps d b.some b.few b.back to.0 to.0 (omega arith))

-- what steps lead to has the same least
pub least_along : (next : ℕ → ℕ) (n : ℕ) → KeepsApart next → StaysBelow next n → (d e : ℕ) → d < n → LeadsTo next d e
    → least_after next n d ≡ least_after next n e
least_along next n apart inside d e h to =
    let he : e < n = subst (λ v. v < n) (steps_is next to.0 d e to.1) (after-below next n inside to.0 d h) in
    let back : LeadsTo next e d = leads_back next n apart inside d e h to in
    let up : LeadsTo next d (least_after next n e) = leads_on next d e (least_after next n e) to (leads_to_least next n e) in
    let down : LeadsTo next e (least_after next n d) = leads_on next e d (least_after next n d) back (leads_to_least next n d) in
    let le = least_le_led next n apart inside d (least_after next n e) h up in
    let ge = least_le_led next n apart inside e (least_after next n d) he down in
    omega arith

-- numbers with one least are on one cycle
pub leads_from_least : (next : ℕ → ℕ) (n : ℕ) → KeepsApart next → StaysBelow next n → (d e : ℕ) → d < n → e < n → least_after next n d ≡ least_after next n e
    → LeadsTo next d e
leads_from_least next n apart inside d e hd he one =
    let back : LeadsTo next (least_after next n e) e = leads_back next n apart inside e (least_after next n e) he (leads_to_least next n e) in
    leads_on next d (least_after next n d) e (leads_to_least next n d) (subst (λ v. LeadsTo next v e) (sym one) back)

-- the least is its own
pub least_again : (next : ℕ → ℕ) (n : ℕ) → KeepsApart next → StaysBelow next n → (d : ℕ) → d < n
    → least_after next n (least_after next n d) ≡ least_after next n d
least_again next n apart inside d h = sym (least_along next n apart inside d (least_after next n d) h (leads_to_least next n d))
