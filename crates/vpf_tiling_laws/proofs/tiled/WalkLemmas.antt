-- Walks: a walk in a list of darts needs no more steps than it has darts, and the least dart of a cycle; lists in pairs.
use Rattle.vpf_base.proofs.Lists.{all_joined as all_join}
use Rattle.std.proofs.Common.{[], ◌≡◌, ℕ, zero, suc, ◌<◌, ◌≤◌, ◌⊎◌, Bool, true, false, eqb, refl, sym, ap, ◌∙◌, subst, inl, inr, arith, List, ◌∷◌, ◌++◌, length, get_or, map, min}
use Rattle.std.specs.Prelude.{filter}
use Rattle.std.specs.List.{AllByRecursion}
use Rattle.std.proofs.lemmas.Bool.{cases_Bool, cases_lt, or_cases, eqb-true, eq-eqb}
use Rattle.vpf_darts.specs.Cycles.{IsCycle, first_of}
use Rattle.vpf_wing.specs.Walks.{Steps, LeadsTo, least_after}
use Rattle.vpf_tiling.specs.Ranks.{is_least}
use Rattle.vpf_wing.specs.Inner.DartLaws.{never_both, stands_in}
use Rattle.vpf_tiling_laws.proofs.tiled.PlaceLemmas.{all_from, all_get, all_passing}
use Rattle.vpf_tiling_laws.specs.Inner.Tiled.WalkLaws.{distinct_few, Distinct}

pub steps_keep : (f : ℕ → ℕ) (P : ℕ → Type 0) → ((x : ℕ) → P x → P (f x)) → (k x y : ℕ) → P x → Steps f k x y → P y
steps_keep f P h zero x y p q = subst P q p
steps_keep f P h (suc k) x y p q = steps_keep f P h k (f x) y (h x p) q

pub steps_join : (f : ℕ → ℕ) (j k x y z : ℕ) → Steps f j x y → Steps f k y z → LeadsTo f x z
steps_join f zero k x y z p q = (k, subst (λ v. Steps f k v z) (sym p) q)
steps_join f (suc j) k x y z p q = (let r : LeadsTo f (f x) z = steps_join f j k (f x) y z p q in (suc r.0, r.1))

pub leads_join : (f : ℕ → ℕ) (x y z : ℕ) → LeadsTo f x y → LeadsTo f y z → LeadsTo f x z
leads_join f x y z p q = steps_join f p.0 q.0 x y z p.1 q.1

-- a walk along a cycle comes back
pub cycle_steps : (f : ℕ → ℕ) (x a : ℕ) (xs : List ℕ) → map f (x ∷ xs) ≡ xs ++ a ∷ [] → Steps f (length (x ∷ xs)) x a
cycle_steps f x a [] h = ap first_of h
cycle_steps f x a (y ∷ ys) h = (
    let e : f x ≡ y = ap first_of h in
    let r : Steps f (length (y ∷ ys)) y a = cycle_steps f y a ys (ap rest h) in
    subst (λ v. Steps f (length (y ∷ ys)) v a) (sym e) r)
  where
    rest : List ℕ → List ℕ
    rest [] = []
    rest (z ∷ zs) = zs

pub comes_back : (f : ℕ → ℕ) (x : ℕ) (xs : List ℕ) → IsCycle f xs → first_of xs ≡ x → LeadsTo f (f x) x
comes_back f x [] h e = absurd h
comes_back f x (y ∷ ys) h e = (length ys, subst (λ v. Steps f (length ys) (f v) v) e (cycle_steps f y y ys h))

pub goes_back : (f : ℕ → ℕ) (P : ℕ → Type 0) → ((x : ℕ) → P x → P (f x)) → ((x : ℕ) → P x → LeadsTo f (f x) x) → (k x y : ℕ) → P x → Steps f k x y
    → LeadsTo f y x
goes_back f P h b zero x y p q = (0, sym q)
goes_back f P h b (suc k) x y p q = leads_join f y (f x) x (goes_back f P h b k (f x) y (h x p) q) (b x p)

-- the darts of a walk
abbrev pub walk : (ℕ → ℕ) → ℕ → ℕ → List ℕ
walk f zero x = x ∷ []
walk f (suc k) x = x ∷ walk f k (f x)

-- a walk without a dart twice
pub record Short (f : ℕ → ℕ) (x y : ℕ) : Type 0 where
  pub count : ℕ
  pub steps : Steps f count x y
  pub distinct : Distinct (walk f count x)

pub rest_walk : (f : ℕ → ℕ) (k z x y : ℕ) → stands_in x (walk f k z) ≡ true → Steps f k z y → Distinct (walk f k z) → Short f x y
rest_walk f zero z x y s q d = elim (or_cases (eqb x z) false s) [
  | inl e ↦ record { count = 0; steps = eqb-true x z e ∙ q; distinct = (refl, tt) }
  | inr n ↦ absurd (never_both false n refl)
]
rest_walk f (suc k) z x y s q d = elim (or_cases (eqb x z) (stands_in x (walk f k (f z))) s) [
  | inl e ↦ subst (λ v. Short f v y) (sym (eqb-true x z e)) (record { count = suc k; steps = q; distinct = d })
  | inr r ↦ rest_walk f k (f z) x y r q d.1
]

pub shorten : (f : ℕ → ℕ) (k x y : ℕ) → Steps f k x y → Short f x y
shorten f zero x y q = record { count = 0; steps = q; distinct = (refl, tt) }
shorten f (suc k) x y q = (
    let r : Short f (f x) y = shorten f k (f x) y q in
    elim (cases_Bool (stands_in x (walk f r.count (f x)))) [
      | inl s ↦ rest_walk f r.count (f x) x y s r.steps r.distinct
      | inr n ↦ record { count = suc r.count; steps = r.steps; distinct = (n, r.distinct) }
    ])

pub walk_length : (f : ℕ → ℕ) (k x : ℕ) → length (walk f k x) ≡ suc k
walk_length f zero x = refl
walk_length f (suc k) x = ap suc (walk_length f k (f x))

pub walk_keeps : (f : ℕ → ℕ) (P : ℕ → Type 0) → ((x : ℕ) → P x → P (f x)) → (k x z : ℕ) → P x → stands_in z (walk f k x) ≡ true → P z
walk_keeps f P h zero x z p s = elim (or_cases (eqb z x) false s) [ inl e ↦ subst P (sym (eqb-true z x e)) p | inr n ↦ absurd (never_both false n refl) ]
walk_keeps f P h (suc k) x z p s = elim (or_cases (eqb z x) (stands_in z (walk f k (f x))) s) [
  | inl e ↦ subst P (sym (eqb-true z x e)) p
  | inr r ↦ walk_keeps f P h k (f x) z (h x p) r
]

-- where a walk stays in a list, it is there in fewer steps than the list has darts
pub few_steps : (f : ℕ → ℕ) (P : ℕ → Type 0) (ys : List ℕ) → ((x : ℕ) → P x → P (f x)) → ((x : ℕ) → P x → stands_in x ys ≡ true) → (x y : ℕ) → P x
    → LeadsTo f x y → (j : ℕ) × (j ≤ length ys) × Steps f j x y
few_steps f P ys h s x y p q = (
    let r : Short f x y = shorten f q.0 x y q.1 in
    let l : length (walk f r.count x) ≤ length ys = distinct_few (walk f r.count x) ys r.distinct (λ z i. s z (walk_keeps f P h r.count x z p i)) in
    let e : length (walk f r.count x) ≡ suc r.count = walk_length f r.count x in
    (r.count, omega arith, r.steps))

pub min-left : (a b : ℕ) → min a b ≤ a
min-left a b = omega arith

pub min-right : (a b : ℕ) → min a b ≤ b
min-right a b = omega arith

pub min-either : (a b : ℕ) → (min a b ≡ a) ⊎ (min a b ≡ b)
min-either a b = elim (cases_lt a b) [ inl l ↦ inl (omega arith) | inr g ↦ inr (omega arith) ]

pub least_below : (f : ℕ → ℕ) (n j x y : ℕ) → j ≤ n → Steps f j x y → least_after f n x ≤ y
least_below f zero zero x y le q = subst (λ z. x ≤ z) q (omega arith)
least_below f zero (suc j) x y le q = absurd (omega arith)
least_below f (suc n) zero x y le q = subst (λ z. min x (least_after f n (f x)) ≤ z) q (min-left x _)
least_below f (suc n) (suc j) x y le q =
    (let r : least_after f n (f x) ≤ y = least_below f n j (f x) y (omega (arith, le)) q in let m : min x (least_after f n (f x)) ≤ least_after f n (f x) =
    min-right x _ in omega arith)

pub least_on : (f : ℕ → ℕ) (n x : ℕ) → LeadsTo f x (least_after f n x)
least_on f zero x = (0, refl)
least_on f (suc n) x = (let r : LeadsTo f (f x) (least_after f n (f x)) = least_on f n (f x) in elim (min-either x (least_after f n (f x))) [
  | inl e ↦ (0, sym e)
  | inr e ↦ subst (LeadsTo f x) (sym e) (suc r.0, r.1)
])

-- where a walk stays in a list, the least dart after one is the least of its cycle
pub least_is : (f : ℕ → ℕ) (P : ℕ → Type 0) (ys : List ℕ) → ((x : ℕ) → P x → P (f x)) → ((x : ℕ) → P x → stands_in x ys ≡ true) → (x : ℕ) → P x
    → is_least f (length ys) (least_after f (length ys) x) ≡ true
least_is f P ys h s x p = (
    let n : ℕ = length ys in
    let y : ℕ = least_after f n x in
    let z : ℕ = least_after f n y in
    let xy : LeadsTo f x y = least_on f n x in
    let r : (j : ℕ) × (j ≤ n) × Steps f j x z = few_steps f P ys h s x z p (leads_join f x y z xy (least_on f n y)) in
    let a : y ≤ z = least_below f n r.0 x z r.1 r.2 in
    let b : z ≤ y = least_below f n 0 y y (omega arith) refl in
    eq-eqb z y (omega arith))

-- two least darts that lead to each other are one
pub least_one : (f : ℕ → ℕ) (P : ℕ → Type 0) (ys : List ℕ) → ((x : ℕ) → P x → P (f x)) → ((x : ℕ) → P x → stands_in x ys ≡ true) → (x y : ℕ) → P x → P y
    → LeadsTo f x y → LeadsTo f y x → is_least f (length ys) x ≡ true → is_least f (length ys) y ≡ true → x ≡ y
least_one f P ys h s x y px py xy yx lx ly = (
    let n : ℕ = length ys in
    let a = few_steps f P ys h s x y px xy in
    let b = few_steps f P ys h s y x py yx in
    let ex : least_after f n x ≡ x = eqb-true _ _ lx in
    let ey : least_after f n y ≡ y = eqb-true _ _ ly in
    let i : least_after f n x ≤ y = least_below f n a.0 x y a.1 a.2 in
    let j : least_after f n y ≤ x = least_below f n b.0 y x b.1 b.2 in
    omega arith)

-- each two of a list, the earlier first
abbrev pub Pairs : {X : Type 0} → (X → X → Type 0) → List X → Type 0
Pairs R [] = Unit {0}
Pairs R (x ∷ xs) = AllByRecursion (R x) xs × Pairs R xs

pub every_map : {X : Type 0} → (P Q : X → Type 0) → ((x : X) → P x → Q x) → (xs : List X) → AllByRecursion P xs → AllByRecursion Q xs
every_map P Q h [] a = tt
every_map P Q h (x ∷ xs) a = (h x a.0, every_map P Q h xs a.1)

pub pairs_from : {X : Type 0} → (R : X → X → Type 0) (xs : List X) (d : X) → ((i j : ℕ) → i < j → j < length xs → R (get_or xs i d) (get_or xs j d))
    → Pairs R xs
pairs_from R [] d h = tt
pairs_from R (x ∷ xs) d h = (
  all_from (R x) xs d (λ j lt. h 0 (suc j) (omega arith) (omega (arith, lt))),
  pairs_from R xs d (λ i j a b. h (suc i) (suc j) (omega (arith, a)) (omega (arith, b))),
)

pub pairs_get : {X : Type 0} → (R : X → X → Type 0) (xs : List X) (i j : ℕ) (d : X) → Pairs R xs → i < j → j < length xs → R (get_or xs i d) (get_or xs j d)
pairs_get R [] i j d p a b = absurd (omega arith)
pairs_get R (x ∷ xs) zero zero d p a b = absurd (omega arith)
pairs_get R (x ∷ xs) zero (suc j) d p a b = all_get (R x) xs j d p.0 (omega (arith, b))
pairs_get R (x ∷ xs) (suc i) zero d p a b = absurd (omega arith)
pairs_get R (x ∷ xs) (suc i) (suc j) d p a b = pairs_get R xs i j d p.1 (omega (arith, a)) (omega (arith, b))

pub pairs_join : {X : Type 0} → (R : X → X → Type 0) (xs ys : List X) → Pairs R xs → Pairs R ys → AllByRecursion (λ x. AllByRecursion (R x) ys) xs
    → Pairs R (xs ++ ys)
pairs_join R [] ys p q c = q
pairs_join R (x ∷ xs) ys p q c = (all_join (R x) xs ys p.0 c.0, pairs_join R xs ys p.1 q c.1)

pub cross_all : {X : Type 0} → (R : X → X → Type 0) (P Q : X → Type 0) → ((x y : X) → P x → Q y → R x y) → (xs ys : List X) → AllByRecursion P xs
    → AllByRecursion Q ys → AllByRecursion (λ x. AllByRecursion (R x) ys) xs
cross_all R P Q h xs ys a b = every_map P (λ x. AllByRecursion (R x) ys) (λ x p. every_map Q (R x) (λ y q. h x y p q) ys b) xs a

-- the pairs of what is made of those that pass
pub pairs_passing : {X Y : Type 0} → (R : Y → Y → Type 0) (S : X → X → Type 0) (g : X → Y) (p : X → Bool) (xs : List X) → Pairs S xs
    → ((x y : X) → p x ≡ true → p y ≡ true → S x y → R (g x) (g y)) → Pairs R (map g (filter p xs))
pairs_passing R S g p [] a h = tt
pairs_passing R S g p (x ∷ xs) a h = elim (cases_Bool (p x)) [
  | inl t ↦ rw t (all_passing (R (g x)) (S x) g p xs a.0 (λ y s q. h x y t s q), pairs_passing R S g p xs a.1 h)
  | inr f ↦ rw f (pairs_passing R S g p xs a.1 h)
]
