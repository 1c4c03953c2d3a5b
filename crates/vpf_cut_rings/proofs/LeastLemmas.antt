-- The least darts of the cycles of a listing are those that its lists begin with.
use Rattle.std.proofs.Common.{[], ◌≡◌, ℕ, ◌+◌, ◌<◌, ◌≤◌, Bool, true, false, eqb, leb, refl, sym, ap, ◌∙◌, subst, inl, inr, arith, List, ◌∷◌, length, map}
use Rattle.std.specs.Prelude.{filter}
use Rattle.std.specs.List.{concat, AllByRecursion}
use Rattle.std.proofs.lemmas.Bool.{cases_Bool, and_parts, and_from, or_cases, or_left, or_right, eqb-true, eq-eqb, leb-true, leb-false}
use Rattle.vpf_darts.specs.Cycles.{BeginsWithLeast, IsCycle, IsListing, count_of, first_of}
use Rattle.vpf_wing.specs.Walks.{least_after}
use Rattle.vpf_wing.specs.Inner.DartLaws.{never_both, stands_in, stands-either}
use Rattle.vpf_tiling.specs.Inner.PresenceLaws.{stands_filter}
use Rattle.vpf_tiling.specs.Ranks.{is_least, leasts}
use Rattle.vpf_cut_rings.proofs.OrderLemmas.{firsts_rise, kept_rise, one_rising, same_test}
use Rattle.vpf_cut_rings.specs.Inner.OrderLaws.{RisesStrictly as Rises, kept_stands, rises_of}
use Rattle.vpf_cut_rings.specs.Inner.Laws.{ArePassing}
use Rattle.vpf_cut_rings.specs.Inner.LeastLaws.{stands_counts, reaches, Reaches, least_under, least_over, first_lowest, few_by_counts, counts_stands, count_join}
use Rattle.vpf_base.proofs.Booleans.{one_if}

-- ---- a list without one of its numbers, and lists that have no number more often than another

-- ---- walks along a cycle

-- ---- the list of a dart

-- a cycle of a listing that has a dart
pub record InCycle (next : ℕ → ℕ) (lists : List (List ℕ)) (x : ℕ) : Type 0 where
  pub first : ℕ
  pub rest : List ℕ
  pub cycle : IsCycle next (first ∷ rest)
  pub least : BeginsWithLeast (first ∷ rest)
  pub there : stands_in x (first ∷ rest) ≡ true
  pub counts : (z : ℕ) → count_of z (first ∷ rest) ≤ count_of z (concat lists)
  pub begins : stands_in first (map first_of lists) ≡ true

later_cycle : (next : ℕ → ℕ) (l : List ℕ) (lists : List (List ℕ)) (x : ℕ) → InCycle next lists x → InCycle next (l ∷ lists) x
later_cycle next l lists x i = record {
  first = i.first;
  rest = i.rest;
  cycle = i.cycle;
  least = i.least;
  there = i.there;
  counts = λ z. over _ _ _ _ (i.counts z) (count_join z l (concat lists));
  begins = or_right (eqb i.first (first_of l)) (stands_in i.first (map first_of lists)) i.begins;
}
  where
    over : (a b c d : ℕ) → a ≤ b → c ≡ d + b → a ≤ c
    over a b c d h e = omega arith

this_cycle : (next : ℕ → ℕ) (l : List ℕ) (lists : List (List ℕ)) (x : ℕ) → IsCycle next l → BeginsWithLeast l → stands_in x l ≡ true → InCycle next (l ∷ lists) x
this_cycle next [] lists x c b s = absurd c
this_cycle next (y ∷ ys) lists x c b s = record {
  first = y;
  rest = ys;
  cycle = c;
  least = b;
  there = s;
  counts = λ z. over _ _ _ (count_join z (y ∷ ys) (concat lists));
  begins = or_left (eqb y y) (stands_in y (map first_of lists)) (eq-eqb y y refl);
}
  where
    over : (a b c : ℕ) → c ≡ a + b → a ≤ c
    over a b c e = omega arith

-- each dart that is listed has its cycle
pub cycle_of : (next : ℕ → ℕ) (lists : List (List ℕ)) (x : ℕ) → AllByRecursion (IsCycle next) lists → AllByRecursion BeginsWithLeast lists
    → stands_in x (concat lists) ≡ true → InCycle next lists x
cycle_of next [] x c b s = absurd (never_both false s refl)
cycle_of next (l ∷ lists) x c b s = elim (stands-either x l (concat lists) s) [
  | inl here ↦ this_cycle next l lists x c.0 b.0 here
  | inr later ↦ later_cycle next l lists x (cycle_of next lists x c.1 b.1 later)
]

-- a dart that a list begins with is the first of its cycle
pub record BeginsCycle (next : ℕ → ℕ) (lists : List (List ℕ)) (x : ℕ) : Type 0 where
  pub there : InCycle next lists x
  pub first : there.first ≡ x

pub begins_cycle : (next : ℕ → ℕ) (lists : List (List ℕ)) (x : ℕ) → AllByRecursion (IsCycle next) lists → AllByRecursion BeginsWithLeast lists
    → stands_in x (map first_of lists) ≡ true → BeginsCycle next lists x
unfolding this_cycle later_cycle
begins_cycle next [] x c b s = absurd (never_both false s refl)
begins_cycle next (l ∷ lists) x c b s = elim (or_cases (eqb x (first_of l)) (stands_in x (map first_of lists)) s) [
  | inl e ↦ this_first l c.0 b.0 (eqb-true x (first_of l) e)
  | inr r ↦ (let i : BeginsCycle next lists x = begins_cycle next lists x c.1 b.1 r in record { there = later_cycle next l lists x i.there; first = i.first })
]
  where
    this_first : (l : List ℕ) → IsCycle next l → BeginsWithLeast l → x ≡ first_of l → BeginsCycle next (l ∷ lists) x
    this_first [] c b e = absurd c
    this_first (y ∷ ys) c b e = record {
      there = this_cycle next (y ∷ ys) lists x c b (or_left (eqb x y) (stands_in x ys) (eq-eqb x y e));
      first = sym e;
    }

-- ---- the law

listed : (live : ℕ → Bool) (x k : ℕ) → k ≡ one_if (live x) → 1 ≤ k → live x ≡ true
listed live x k e h = elim (cases_Bool (live x)) [ inl t ↦ t | inr f ↦ (let none : one_if (live x) ≡ 0 = ap one_if f in absurd (omega arith)) ]

module _ (next : ℕ → ℕ) (live p : ℕ → Bool) (darts : List ℕ) (lists : List (List ℕ)) (l : IsListing next live lists) (a : ArePassing next live p darts) where
  rise : Rises darts
  rise = rises_of darts a.rise

  live_of : (x : ℕ) → stands_in x (concat lists) ≡ true → live x ≡ true
  live_of x s = listed live x (count_of x (concat lists)) (l.cycles.once x) (stands_counts x (concat lists) s)

  of_live : (x : ℕ) → live x ≡ true → stands_in x (concat lists) ≡ true
  of_live x h = let e : count_of x (concat lists) ≡ 1 = l.cycles.once x ∙ ap one_if h in counts_stands x (concat lists) (omega arith)

  in_cycle_listed : (x : ℕ) (i : InCycle next lists x) (z : ℕ) → stands_in z (i.first ∷ i.rest) ≡ true → stands_in z (concat lists) ≡ true
  in_cycle_listed x i z s =
      let one : 1 ≤ count_of z (i.first ∷ i.rest) = stands_counts z (i.first ∷ i.rest) s in
      let most : count_of z (i.first ∷ i.rest) ≤ count_of z (concat lists) = i.counts z in
      counts_stands z (concat lists) (omega arith)

  comes_to : (x : ℕ) (i : InCycle next lists x) (z : ℕ) → stands_in z (i.first ∷ i.rest) ≡ true → Reaches next p (length (i.first ∷ i.rest)) z i.first
  comes_to x i z s = reaches next p i.first i.first i.rest i.cycle (λ w h. a.along w (live_of w (in_cycle_listed x i w h))) z s

  -- a cycle of darts that pass has no more darts than pass
  cycle_few : (x : ℕ) (i : InCycle next lists x) → p x ≡ true → length (i.first ∷ i.rest) ≤ length darts
  cycle_few x i h = few_by_counts (i.first ∷ i.rest) darts (λ z. elim (cases_Bool (stands_in z (i.first ∷ i.rest))) [
    | inl s ↦ (
        let listed : stands_in z (concat lists) ≡ true = in_cycle_listed x i z s in
        let passes : p z ≡ true = (comes_to x i z s).same ∙ sym (comes_to x i x i.there).same ∙ h in
        let there : stands_in z darts ≡ true = a.each z ∙ and_from (live z) (p z) (live_of z listed) passes in
        let some : 1 ≤ count_of z darts = stands_counts z darts there in
        let once : count_of z (concat lists) ≡ 1 = l.cycles.once z ∙ ap one_if (live_of z listed) in
        let most : count_of z (i.first ∷ i.rest) ≤ count_of z (concat lists) = i.counts z in
        omega arith)
    | inr n ↦ none z (i.first ∷ i.rest) (count_of z darts) n
  ])
    where
      none : (z : ℕ) (xs : List ℕ) (k : ℕ) → stands_in z xs ≡ false → count_of z xs ≤ k
      none z xs k n = elim (cases_Bool (leb 1 (count_of z xs))) [
        | inl t ↦ absurd (never_both (stands_in z xs) (counts_stands z xs (leb-true 1 (count_of z xs) t)) n)
        | inr f ↦ (let low : count_of z xs < 1 = leb-false 1 (count_of z xs) f in omega arith)
      ]

  least_begins : (x : ℕ) → stands_in x (leasts next darts) ≡ true → stands_in x (filter p (map first_of lists)) ≡ true
  least_begins x s =
      let q = kept_stands (is_least next (length darts)) x darts s in
      let both = and_parts (live x) (p x) (sym (a.each x) ∙ q.1) in
      let i : InCycle next lists x = cycle_of next lists x l.cycles.cycles l.least (of_live x both.0) in
      let r : Reaches next p (length (i.first ∷ i.rest)) x i.first = comes_to x i x i.there in
      let few : length (i.first ∷ i.rest) ≤ length darts = cycle_few x i both.1 in
      let some = r.few in
      let under : least_after next (length darts) x ≤ i.first = least_under next r.count (length darts) x i.first (omega arith) r.steps in
      let is : least_after next (length darts) x ≡ x = eqb-true (least_after next (length darts) x) x q.0 in
      let over : i.first ≤ x = first_lowest i.first i.rest i.least x i.there in
      let same : i.first ≡ x = omega arith in
      stands_filter p x (map first_of lists) both.1 (subst (λ v. stands_in v (map first_of lists) ≡ true) same i.begins)

  begin_least : (x : ℕ) → stands_in x (filter p (map first_of lists)) ≡ true → stands_in x (leasts next darts) ≡ true
  begin_least x s =
      let q = kept_stands p x (map first_of lists) s in
      let b : BeginsCycle next lists x = begins_cycle next lists x l.cycles.cycles l.least q.1 in
      let i : InCycle next lists x = b.there in
      let here : live x ≡ true = live_of x (in_cycle_listed x i x i.there) in
      let low : (z : ℕ) → stands_in z (i.first ∷ i.rest) ≡ true → x ≤ z =
      λ z h. subst (λ v. v ≤ z) b.first (first_lowest i.first i.rest i.least z h) in
      let over : x ≤ least_after next (length darts) x = least_over next (i.first ∷ i.rest) x i.cycle low (length darts) x i.there in
      let under : least_after next (length darts) x ≤ x = least_under next 0 (length darts) x x (omega arith) refl in
      stands_filter (is_least next (length darts)) x darts (eq-eqb (least_after next (length darts) x) x (omega arith))
      (a.each x ∙ and_from (live x) (p x) here q.0)

  pub leasts_begin : leasts next darts ≡ filter p (map first_of lists)
  leasts_begin =
      one_rising (leasts next darts) (filter p (map first_of lists)) (kept_rise (is_least next (length darts)) darts rise)
      (kept_rise p (map first_of lists) (firsts_rise lists l.rise)) (λ z. same_test _ _ (least_begins z) (begin_least z))
