-- A node is one cycle of turn exactly where that cycle has as many darts as the node.
use Rattle.std.proofs.Common.{[], ◌≡◌, ℕ, zero, suc, ◌+◌, ◌-◌, ◌*◌, ◌/◌, ◌%◌, ◌<◌, ◌≤◌, ◌⊎◌, Bool, true, false, eqb, Some, List, ◌∷◌, ◌++◌, map, length, get_or, refl, sym, ap, subst, ◌∙◌, arith, inl, inr}
use Rattle.std.proofs.lemmas.Bool.{cases_eq, and_parts, eqb-true}
use Rattle.vpf_darts.specs.declared.darts.Dart.{Dart}
use Rattle.vpf_darts.specs.Cycles.{count_of, IsCycle, first_of}
use Rattle.vpf_darts.specs.Inner.CycleLaws.{count_of-here, count_of-not_here, count_of-next}
use Rattle.vpf_darts.specs.Inner.OrbitLaws.{Returns, few_from_once}
use Rattle.vpf_prims.specs.declared.rows.Edge.{Edge}
use Rattle.vpf_wing.specs.Nexts.{dart_at, tail, head, face, follows, the_one, next_dart, wing}
use Rattle.vpf_wing.specs.Places.{steps_back, tails}
use Rattle.vpf_wing.specs.Walks.{Steps, LeadsTo}
use Rattle.vpf_wing.proofs.LawFacts.{same, apart}
use Rattle.vpf_wing.proofs.LawCounts.{count_of-cons}
use Rattle.vpf_wing.proofs.LawOrbits.{KeepsApart, after, after-last, steps_is}

steps_back-walk : (step : ℕ → ℕ) (s d : ℕ) (xs : List ℕ) (fuel : ℕ) → map step (d ∷ xs) ≡ xs ++ s ∷ [] → count_of s xs ≡ 0 → length (d ∷ xs) ≤ fuel
    → steps_back step s fuel d ≡ length (d ∷ xs)
steps_back-walk step s d xs zero h none few = absurd (omega arith)
steps_back-walk step s d [] (suc fuel) h none few = (let e : step d ≡ s = cc in rw (same (step d) s e) refl)
steps_back-walk step s d (x ∷ xs) (suc fuel) h none few =
    let e : step d ≡ x = cc in
    let rest : map step (x ∷ xs) ≡ xs ++ s ∷ [] = cc in
    let ne : step d ≡ s → ⊥ = λ q. (
    let one : x ≡ s = sym e ∙ q in
    let some : 0 < count_of s (x ∷ xs) = subst (λ v. 0 < count_of s (v ∷ xs)) (sym one) (count_of-here s xs) in
    omega arith) in
    let none' : count_of s xs ≡ 0 = omega (arith, count_of-cons s x xs) in
    let ih : steps_back step s fuel x ≡ length (x ∷ xs) = steps_back-walk step s x xs fuel rest none' (omega arith) in
    let ih' : steps_back step s fuel (step d) ≡ length (x ∷ xs) = ap (steps_back step s fuel) e ∙ ih in
    rw (apart (step d) s ne, ih') (omega arith)

-- each dart of a walk comes after its first
walk_to : (step : ℕ → ℕ) (s d : ℕ) (xs : List ℕ) → map step (d ∷ xs) ≡ xs ++ s ∷ [] → (y : ℕ) → 0 < count_of y (d ∷ xs) → LeadsTo step d y
walk_to step s d [] h y some = elim (cases_eq d y) [
  | inl e ↦ (0, e)
  | inr ne ↦ absurd (omega (arith, count_of-not_here d y [] ne some))
]
walk_to step s d (x ∷ xs) h y some =
    let e : step d ≡ x = cc in
    let rest : map step (x ∷ xs) ≡ xs ++ s ∷ [] = cc in
    elim (cases_eq d y) [
      | inl one ↦ (0, one)
      | inr ne ↦ (
          let r : LeadsTo step x y = walk_to step s x xs rest y (count_of-not_here d y (x ∷ xs) ne some) in
          (suc r.0, subst (λ v. Steps step r.0 v y) (sym e) r.1))
    ]

-- the round of a dart is as long as its walk back
size_by : (step : ℕ → ℕ) (n : ℕ) (darts : List ℕ) → IsCycle step darts → ((y : ℕ) → count_of y darts ≤ 1) → length darts ≤ n
    → steps_back step (first_of darts) n (first_of darts) ≡ length darts
size_by step n [] cycle once few = absurd cycle
size_by step n (x ∷ xs) cycle once few =
    let here : 0 < count_of x (x ∷ []) = count_of-here x [] in
    let le : count_of x (x ∷ xs) ≤ 1 = once x in
    let none : count_of x xs ≡ 0 = omega (arith, count_of-cons x x xs) in
    steps_back-walk step x x xs n cycle none few

pub round_size : (step : ℕ → ℕ) (n s : ℕ) (r : Returns step (λ d. d < n) s) → steps_back step s n s ≡ length r.darts
round_size step n s r =
    subst (λ v. steps_back step v n v ≡ length r.darts) r.first (size_by step n r.darts r.cycle r.once (few_from_once r.darts n r.once r.hold))

to_by : (step : ℕ → ℕ) (darts : List ℕ) → IsCycle step darts → (y : ℕ) → 0 < count_of y darts → LeadsTo step (first_of darts) y
to_by step [] cycle y some = absurd cycle
to_by step (x ∷ xs) cycle y some = walk_to step x x xs cycle y some

pub round_to : (step : ℕ → ℕ) (n s : ℕ) (r : Returns step (λ d. d < n) s) → (y : ℕ) → 0 < count_of y r.darts → LeadsTo step s y
round_to step n s r y some = subst (λ v. LeadsTo step v y) r.first (to_by step r.darts r.cycle y some)

has_by : (step : ℕ → ℕ) → KeepsApart step → (darts : List ℕ) → IsCycle step darts → (k : ℕ) → 0 < count_of (after step k (first_of darts)) darts
has_by step apart [] cycle k = absurd cycle
has_by step apart (x ∷ xs) cycle zero = count_of-here x xs
has_by step apart (x ∷ xs) cycle (suc k) =
    let ih : 0 < count_of (after step k x) (x ∷ xs) = has_by step apart (x ∷ xs) cycle k in
    let one : count_of (step (after step k x)) (x ∷ xs) ≡ count_of (after step k x) (x ∷ xs) = count_of-next step apart (x ∷ xs) cycle (after step k x) in
    let more : 0 < count_of (step (after step k x)) (x ∷ xs) = omega arith in
    subst (λ v. 0 < count_of v (x ∷ xs)) (sym (after-last step k x)) more

pub round_has : (step : ℕ → ℕ) (n s : ℕ) → KeepsApart step → (r : Returns step (λ d. d < n) s) → (y : ℕ) → LeadsTo step s y → 0 < count_of y r.darts
round_has step n s apart r y to =
    let some : 0 < count_of (after step to.0 s) r.darts =
    subst (λ v. 0 < count_of (after step to.0 v) r.darts) r.first (has_by step apart r.darts r.cycle to.0) in
    subst (λ v. 0 < count_of v r.darts) (steps_is step to.0 s y to.1) some

pub length-tails : (edges : List Edge) → length (tails edges) ≡ 2 * length edges
length-tails [] = refl
length-tails (e ∷ edges) = omega (arith, length-tails edges)

-- the tails in order are the tails of the darts
pub tail_at : (edges : List Edge) (p : ℕ) → p < 2 * length edges → get_or (tails edges) p 0 ≡ tail edges (dart_at p)
unfolding tail
tail_at [] p h = absurd (omega arith)
tail_at (e ∷ edges) zero h = refl
tail_at (e ∷ edges) (suc zero) h = refl
tail_at (e ∷ edges) (suc (suc p)) h =
    let half : suc (suc p) / 2 + 1 - 1 ≡ suc (p / 2) = omega arith in
    let half' : p / 2 + 1 - 1 ≡ p / 2 = omega arith in
    let odd : suc (suc p) % 2 ≡ p % 2 = omega arith in
    let ih : get_or (tails edges) p 0 ≡ tail edges (dart_at p) = tail_at edges p (omega arith) in
    let ih' = rw half' at ih in
    rw (half, odd) ih'

the_one-passes : (a b : Bool) (x y z : Dart) → the_one a b x y ≡ Some z → ((z ≡ x) × (a ≡ true)) ⊎ ((z ≡ y) × (b ≡ true))
the_one-passes true true x y z h = absurd cc
the_one-passes true false x y z h = inl ((let e : z ≡ x = cc in e), refl)
the_one-passes false true x y z h = inr ((let e : z ≡ y = cc in e), refl)
the_one-passes false false x y z h = absurd cc

follows_tail : (edges : List Edge) (d x : Dart) → follows edges d x ≡ true → tail edges x ≡ head edges d
follows_tail edges d x h = eqb-true (tail edges x) (head edges d) (and_parts (eqb (tail edges x) (head edges d)) (eqb (face edges x) (face edges d)) h).0

-- a next begins where the dart ends
pub next_tail : (edges : List Edge) (d x : Dart) → next_dart edges d ≡ Some x → tail edges x ≡ head edges d
unfolding next_dart
next_tail edges d x h =
    let plus : Dart = record { edge = wing edges d; minus = false } in
    let minus : Dart = record { edge = wing edges d; minus = true } in
    elim (the_one-passes (follows edges d plus) (follows edges d minus) plus minus x h) [
      | inl a ↦ follows_tail edges d x (subst (λ v. follows edges d v ≡ true) (sym a.0) a.1)
      | inr b ↦ follows_tail edges d x (subst (λ v. follows edges d v ≡ true) (sym b.0) b.1)
    ]
