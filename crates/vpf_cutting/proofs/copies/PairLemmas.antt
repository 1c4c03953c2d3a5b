-- Pairs that rise, and the list of each number among them.
use Rattle.std.proofs.Common.{◌≡◌, ℕ, suc, ◌+◌, ◌-◌, ◌<◌, ◌≤◌, Bool, true, false, eqb, ltb, ◌||◌, ◌&&◌, cond, ◌⊎◌, List, [], ◌∷◌, map, refl, sym, ap, zero-add, ◌∙◌, subst, inl, inr, arith, filter, count_by, Ordering, Less, Equal, Greater}
use Rattle.std.specs.List.{AllByRecursion, slice_range}
use Rattle.std.specs.List.Sorted.{IsStrictlySortedBy}
use Rattle.std.specs.Ordering.{nat_cmp, ordering_then}
use Rattle.std.proofs.lemmas.Bool.{cases_Bool, cases_order, cases_lt, eqb-true, eq-eqb, ne_eqb, lt-ltb, le-ltb}
use Rattle.std.proofs.lemmas.List.Sums.{sum_by-cons}
use Rattle.vpf_cutting.specs.Inner.Copies.Lists.{pair_cmp, is_paired}
use Rattle.vpf_cutting.specs.Inner.Copies.Presence.{is_one_of}
use Rattle.vpf_cutting.proofs.copies.RisingLemmas.{Rises}

-- how many pairs are of numbers below k
abbrev pub below_count : ℕ → List (ℕ × ℕ) → ℕ
below_count k ps = count_by (λ (p : ℕ × ℕ). ltb p.0 k) ps

-- the second numbers of the pairs of k
abbrev pub seconds : ℕ → List (ℕ × ℕ) → List ℕ
seconds k ps = map (λ (p : ℕ × ℕ). p.1) (filter (λ (p : ℕ × ℕ). eqb p.0 k) ps)

nat_less : (x y : ℕ) → nat_cmp x y ≡ Less → x < y
nat_less x y h = elim (cases_lt x y) [
  | inl lt ↦ lt
  | inr le ↦ (let f : ltb x y ≡ false = le-ltb x y le in let g : cond (eqb x y) Equal Greater ≡ Less = ap (λ b. cond b Less (cond (eqb x y) Equal Greater)) (sym f) ∙ h in absurd (not_less (eqb x y) g))
]
  where
    not_less : (b : Bool) → cond b Equal Greater ≡ Less → ⊥
    not_less true e = (cc)
    not_less false e = (cc)

nat_equal : (x y : ℕ) → nat_cmp x y ≡ Equal → x ≡ y
nat_equal x y h = elim (cases_order x y) [
  | inl e ↦ e
  | inr o ↦ elim o [
    | inl lt ↦ (let t : ltb x y ≡ true = lt-ltb x y lt in let g : Less ≡ Equal = ap (λ b. cond b Less (cond (eqb x y) Equal Greater)) (sym t) ∙ h in absurd (cc))
    | inr gt ↦ (let f : ltb x y ≡ false = le-ltb x y (omega arith) in let n : eqb x y ≡ false = ne_eqb x y (λ e. absurd (omega arith)) in let g : Greater ≡ Equal = ap (λ b. cond b Equal Greater) (sym n) ∙ ap (λ b. cond b Less (cond (eqb x y) Equal Greater)) (sym f) ∙ h in absurd (cc))
  ]
]

then_less : (o p : Ordering) → ordering_then o p ≡ Less → (o ≡ Less) ⊎ ((o ≡ Equal) × (p ≡ Less))
then_less Less p h = inl refl
then_less Equal p h = inr (refl, h)
then_less Greater p h = absurd (cc)

pub pair_less : (x y : ℕ × ℕ) → pair_cmp x y ≡ Less → (x.0 < y.0) ⊎ ((x.0 ≡ y.0) × (x.1 < y.1))
pair_less x y h = elim (then_less (nat_cmp x.0 y.0) (nat_cmp x.1 y.1) h) [
  | inl l ↦ inl (nat_less x.0 y.0 l)
  | inr e ↦ inr (nat_equal x.0 y.0 e.0, nat_less x.1 y.1 e.1)
]

pub first_le : (x y : ℕ × ℕ) → pair_cmp x y ≡ Less → x.0 ≤ y.0
first_le x y h = elim (pair_less x y h) [ inl l ↦ omega arith | inr e ↦ (let s : x.0 ≡ y.0 = e.0 in omega arith) ]

pub below_cons : (k : ℕ) (p : ℕ × ℕ) (ps : List (ℕ × ℕ)) → below_count k (p ∷ ps) ≡ cond (ltb p.0 k) 1 0 + below_count k ps
below_cons k p ps = sum_by-cons (λ (p : ℕ × ℕ). cond (ltb p.0 k) 1 0) p ps

-- none of the pairs after p are of a number up to p's
none_below : (k : ℕ) (p : ℕ × ℕ) (ps : List (ℕ × ℕ)) → k ≤ p.0 → AllByRecursion (λ q. pair_cmp p q ≡ Less) ps → below_count k ps ≡ 0
none_below k p [] h a = refl
none_below k p (q ∷ qs) h a =
    let le : p.0 ≤ q.0 = first_le p q a.0 in
    let f : ltb q.0 k ≡ false = le-ltb q.0 k (omega arith) in
    let r : below_count k qs ≡ 0 = none_below k p qs h a.1 in
    below_cons k q qs ∙ ap (λ b. cond b 1 0 + below_count k qs) f ∙ zero-add (below_count k qs) ∙ r

none_of : (k : ℕ) (p : ℕ × ℕ) (ps : List (ℕ × ℕ)) → k < p.0 → AllByRecursion (λ q. pair_cmp p q ≡ Less) ps → seconds k ps ≡ []
none_of k p [] h a = refl
none_of k p (q ∷ qs) h a =
    let le : p.0 ≤ q.0 = first_le p q a.0 in
    let f : eqb q.0 k ≡ false = ne_eqb q.0 k (λ e. absurd (omega arith)) in
    ap (λ b. map (λ (p : ℕ × ℕ). p.1) (cond b (q ∷ filter (λ (p : ℕ × ℕ). eqb p.0 k) qs) (filter (λ (p : ℕ × ℕ). eqb p.0 k) qs))) f ∙ none_of k p qs h a.1

range_skip : (a b : ℕ) (x : ℕ) (xs : List ℕ) → slice_range (x ∷ xs) (1 + a) (1 + b) ≡ slice_range xs a b
range_skip a b x xs = let e : 1 + a ≡ suc a = omega arith in let f : (1 + b) - (1 + a) ≡ b - a = omega arith in rw (f, e) refl

range_take : (b : ℕ) (x : ℕ) (xs : List ℕ) → slice_range (x ∷ xs) 0 (1 + b) ≡ x ∷ slice_range xs 0 b
range_take b x xs = let e : (1 + b) - 0 ≡ suc b = omega arith in let f : b - 0 ≡ b = omega arith in rw (e, f) refl

-- of pairs that rise, those of k stand side by side, behind those of lower numbers
pub seconds_range : (k : ℕ) (ps : List (ℕ × ℕ)) → IsStrictlySortedBy pair_cmp ps → slice_range (map (λ (p : ℕ × ℕ). p.1) ps) (below_count k ps) (below_count (k + 1) ps) ≡ seconds k ps
unfolding IsStrictlySortedBy
seconds_range k [] s = refl
seconds_range k (p ∷ ps) s =
    let snd : List (ℕ × ℕ) → List ℕ = map (λ (p : ℕ × ℕ). p.1) in
    let rest : slice_range (map (λ (p : ℕ × ℕ). p.1) ps) (below_count k ps) (below_count (k + 1) ps) ≡ seconds k ps = seconds_range k ps s.1 in
    let A : ℕ = below_count k ps in
    let B : ℕ = below_count (k + 1) ps in
    elim (cases_order p.0 k) [
      | inl e ↦ (
          let f : ltb p.0 k ≡ false = le-ltb p.0 k (omega arith) in
          let g : ltb p.0 (k + 1) ≡ true = lt-ltb p.0 (k + 1) (omega arith) in
          let h : eqb p.0 k ≡ true = eq-eqb p.0 k e in
          let z : below_count k ps ≡ 0 = none_below k p ps (omega arith) s.0 in
          at_head k p ps f g h z rest)
      | inr o ↦ elim o [
        | inl lt ↦ (
            let f : ltb p.0 k ≡ true = lt-ltb p.0 k lt in
            let g : ltb p.0 (k + 1) ≡ true = lt-ltb p.0 (k + 1) (omega arith) in
            let h : eqb p.0 k ≡ false = ne_eqb p.0 k (λ e. absurd (omega arith)) in
            behind k p ps f g h rest)
        | inr gt ↦ (
            let f : ltb p.0 k ≡ false = le-ltb p.0 k (omega arith) in
            let g : ltb p.0 (k + 1) ≡ false = le-ltb p.0 (k + 1) (omega arith) in
            let h : eqb p.0 k ≡ false = ne_eqb p.0 k (λ e. absurd (omega arith)) in
            let z : below_count k ps ≡ 0 = none_below k p ps (omega arith) s.0 in
            let y : below_count (k + 1) ps ≡ 0 = none_below (k + 1) p ps (omega arith) s.0 in
            before k p ps f g h z y (none_of k p ps gt s.0))
      ]
    ]
  where
    at_head : (k : ℕ) (p : ℕ × ℕ) (ps : List (ℕ × ℕ)) → ltb p.0 k ≡ false → ltb p.0 (k + 1) ≡ true → eqb p.0 k ≡ true → below_count k ps ≡ 0 → slice_range (map (λ (p : ℕ × ℕ). p.1) ps) (below_count k ps) (below_count (k + 1) ps) ≡ seconds k ps → slice_range (map (λ (p : ℕ × ℕ). p.1) (p ∷ ps)) (below_count k (p ∷ ps)) (below_count (k + 1) (p ∷ ps)) ≡ seconds k (p ∷ ps)
    at_head k p ps f g h z rest =
        let r : slice_range (map (λ (p : ℕ × ℕ). p.1) ps) 0 (below_count (k + 1) ps) ≡ seconds k ps = subst (λ n. slice_range (map (λ (p : ℕ × ℕ). p.1) ps) n (below_count (k + 1) ps) ≡ seconds k ps) z rest in
        let za : below_count k (p ∷ ps) ≡ 0 = below_cons k p ps ∙ ap (λ b. cond b 1 0 + below_count k ps) f ∙ zero-add (below_count k ps) ∙ z in
        let zb : below_count (k + 1) (p ∷ ps) ≡ 1 + below_count (k + 1) ps = below_cons (k + 1) p ps ∙ ap (λ b. cond b 1 0 + below_count (k + 1) ps) g in
        let zs : seconds k (p ∷ ps) ≡ p.1 ∷ seconds k ps = ap (λ b. map (λ (p : ℕ × ℕ). p.1) (cond b (p ∷ filter (λ (p : ℕ × ℕ). eqb p.0 k) ps) (filter (λ (p : ℕ × ℕ). eqb p.0 k) ps))) h in
        ap (λ a. slice_range (map (λ (p : ℕ × ℕ). p.1) (p ∷ ps)) a (below_count (k + 1) (p ∷ ps))) za ∙ ap (slice_range (map (λ (p : ℕ × ℕ). p.1) (p ∷ ps)) 0) zb ∙ range_take (below_count (k + 1) ps) p.1 (map (λ (p : ℕ × ℕ). p.1) ps) ∙ ap (λ xs. p.1 ∷ xs) r ∙ sym zs

    behind : (k : ℕ) (p : ℕ × ℕ) (ps : List (ℕ × ℕ)) → ltb p.0 k ≡ true → ltb p.0 (k + 1) ≡ true → eqb p.0 k ≡ false → slice_range (map (λ (p : ℕ × ℕ). p.1) ps) (below_count k ps) (below_count (k + 1) ps) ≡ seconds k ps → slice_range (map (λ (p : ℕ × ℕ). p.1) (p ∷ ps)) (below_count k (p ∷ ps)) (below_count (k + 1) (p ∷ ps)) ≡ seconds k (p ∷ ps)
    behind k p ps f g h rest =
        let za : below_count k (p ∷ ps) ≡ 1 + below_count k ps = below_cons k p ps ∙ ap (λ b. cond b 1 0 + below_count k ps) f in
        let zb : below_count (k + 1) (p ∷ ps) ≡ 1 + below_count (k + 1) ps = below_cons (k + 1) p ps ∙ ap (λ b. cond b 1 0 + below_count (k + 1) ps) g in
        let zs : seconds k (p ∷ ps) ≡ seconds k ps = ap (λ b. map (λ (p : ℕ × ℕ). p.1) (cond b (p ∷ filter (λ (p : ℕ × ℕ). eqb p.0 k) ps) (filter (λ (p : ℕ × ℕ). eqb p.0 k) ps))) h in
        ap (λ a. slice_range (map (λ (p : ℕ × ℕ). p.1) (p ∷ ps)) a (below_count (k + 1) (p ∷ ps))) za ∙ ap (slice_range (map (λ (p : ℕ × ℕ). p.1) (p ∷ ps)) (1 + below_count k ps)) zb ∙ range_skip (below_count k ps) (below_count (k + 1) ps) p.1 (map (λ (p : ℕ × ℕ). p.1) ps) ∙ rest ∙ sym zs

    before : (k : ℕ) (p : ℕ × ℕ) (ps : List (ℕ × ℕ)) → ltb p.0 k ≡ false → ltb p.0 (k + 1) ≡ false → eqb p.0 k ≡ false → below_count k ps ≡ 0 → below_count (k + 1) ps ≡ 0 → seconds k ps ≡ [] → slice_range (map (λ (p : ℕ × ℕ). p.1) (p ∷ ps)) (below_count k (p ∷ ps)) (below_count (k + 1) (p ∷ ps)) ≡ seconds k (p ∷ ps)
    before k p ps f g h z y n =
        let za : below_count k (p ∷ ps) ≡ 0 = below_cons k p ps ∙ ap (λ b. cond b 1 0 + below_count k ps) f ∙ zero-add (below_count k ps) ∙ z in
        let zb : below_count (k + 1) (p ∷ ps) ≡ 0 = below_cons (k + 1) p ps ∙ ap (λ b. cond b 1 0 + below_count (k + 1) ps) g ∙ zero-add (below_count (k + 1) ps) ∙ y in
        let zs : seconds k (p ∷ ps) ≡ seconds k ps = ap (λ b. map (λ (p : ℕ × ℕ). p.1) (cond b (p ∷ filter (λ (p : ℕ × ℕ). eqb p.0 k) ps) (filter (λ (p : ℕ × ℕ). eqb p.0 k) ps))) h in
        ap (λ a. slice_range (map (λ (p : ℕ × ℕ). p.1) (p ∷ ps)) a (below_count (k + 1) (p ∷ ps))) za ∙ ap (slice_range (map (λ (p : ℕ × ℕ). p.1) (p ∷ ps)) 0) zb ∙ sym n ∙ sym zs

-- ---- the pairs of k rise by their second numbers

above_seconds : (k : ℕ) (p : ℕ × ℕ) (ps : List (ℕ × ℕ)) → p.0 ≡ k → AllByRecursion (λ q. pair_cmp p q ≡ Less) ps → AllByRecursion (λ y. p.1 < y) (seconds k ps)
above_seconds k p [] e a = a
above_seconds k p (q ∷ qs) e a =
    let rest : AllByRecursion (λ y. p.1 < y) (seconds k qs) = above_seconds k p qs e a.1 in
    let P : Bool → Type 0 = λ b. AllByRecursion (λ y. p.1 < y) (map (λ (p : ℕ × ℕ). p.1) (cond b (q ∷ filter (λ (p : ℕ × ℕ). eqb p.0 k) qs) (filter (λ (p : ℕ × ℕ). eqb p.0 k) qs))) in
    elim (cases_Bool (eqb q.0 k)) [
      | inl t ↦ subst P (sym t) (elim (pair_less p q a.0) [
        | inl lt ↦ (let s : q.0 ≡ k = eqb-true q.0 k t in absurd (omega arith))
        | inr r ↦ (r.1, rest)
      ])
      | inr f ↦ subst P (sym f) rest
    ]

pub seconds_up : (k : ℕ) (ps : List (ℕ × ℕ)) → IsStrictlySortedBy pair_cmp ps → Rises (seconds k ps)
unfolding IsStrictlySortedBy
seconds_up k [] s = tt
seconds_up k (p ∷ ps) s =
    let P : Bool → Type 0 = λ b. Rises (map (λ (p : ℕ × ℕ). p.1) (cond b (p ∷ filter (λ (p : ℕ × ℕ). eqb p.0 k) ps) (filter (λ (p : ℕ × ℕ). eqb p.0 k) ps))) in
    elim (cases_Bool (eqb p.0 k)) [
      | inl t ↦ subst P (sym t) (above_seconds k p ps (eqb-true p.0 k t) s.0, seconds_up k ps s.1)
      | inr f ↦ subst P (sym f) (seconds_up k ps s.1)
    ]

-- and are those that are paired with k
pub seconds_in : (k i : ℕ) (ps : List (ℕ × ℕ)) → is_one_of (seconds k ps) i ≡ is_paired ps k i
seconds_in k i [] = refl
seconds_in k i (p ∷ ps) = step (eqb p.0 k) k i p ps (seconds_in k i ps)
  where
    step : (b : Bool) (k i : ℕ) (p : ℕ × ℕ) (ps : List (ℕ × ℕ)) → is_one_of (seconds k ps) i ≡ is_paired ps k i → is_one_of (map (λ (p : ℕ × ℕ). p.1) (cond b (p ∷ filter (λ (p : ℕ × ℕ). eqb p.0 k) ps) (filter (λ (p : ℕ × ℕ). eqb p.0 k) ps))) i ≡ ((b && eqb p.1 i) || is_paired ps k i)
    step true k i p ps h = ap (λ c. eqb p.1 i || c) h
    step false k i p ps h = h
