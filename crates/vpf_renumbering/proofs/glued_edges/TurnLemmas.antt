-- The turns of a map about its nodes, each by its least dart: the number of a turn is that of its node.
use Rattle.std.proofs.Common.{[], ◌≡◌, ℕ, zero, suc, ◌+◌, ◌<◌, ◌≤◌, Bool, true, false, cond, eqb, leb, ◌&&◌, refl, sym, ap, ◌∙◌, subst, inl, inr, arith, List, ◌∷◌, length, get_or, map, Some}
use Rattle.std.specs.Prelude.{filter, slice_get}
use Rattle.std.specs.List.{AllByRecursion, concat}
use Rattle.std.specs.List.Sorted.{IsStrictlyIncreasing}
use Rattle.std.proofs.lemmas.Bool.{cases_Bool, eq-eqb, eqb-true, leb-true, leb-false}
use Rattle.std.proofs.lemmas.List.{get_or-map, length-map}
use Rattle.std.proofs.lemmas.List.Kept.{IsStrictlyIncreasing-filter}
use Rattle.vpf_darts.specs.declared.darts.TileDart.{TileDart}
use Rattle.vpf_darts.specs.Cycles.{BeginsWithLeast, IsCycle, IsListing, count_of, first_of}
use Rattle.vpf_darts.specs.Darts.{tile_dart_code}
use Rattle.vpf_darts.specs.Listings.{numbers_of}
use Rattle.vpf_wing.specs.Inner.DartLaws.{never_both, none_is_some, same_some, stands_in, stands-either}
use Rattle.vpf_wing.specs.Walks.{least_after}
use Rattle.vpf_tiling.specs.Ranks.{is_least, leasts}
use Rattle.vpf_wing.specs.Inner.Kept.Kept.{place_among}
use Rattle.vpf_wing.specs.Inner.Kept.PlaceLaws.{place_of_at, stands_at}
use Rattle.vpf_tiling_laws.specs.Gluing.Glued.{listed_at}
use Rattle.vpf_prims.specs.Lists.{first_from}
use Rattle.vpf_cut_rings.specs.Inner.Laws.{ArePassing, LeastsBeginCycles}
use Rattle.vpf_cut_rings.specs.Inner.LeastLaws.{Reaches, counts_stands, count_join, few_by_counts, first_lowest, least_over, least_under, reaches, stands_counts}
use Rattle.vpf_renumbering.specs.Inner.GluedEdges.Numbers.{AreByList, kept_for}
use Rattle.vpf_base.proofs.Booleans.{one_if}

-- ---- the number of what stands in a list

turned : (x y : ℕ) → eqb y x ≡ eqb x y
turned x y = elim (cases_Bool (eqb x y)) [
  | inl e ↦ eq-eqb y x (sym (eqb-true x y e)) ∙ sym e
  | inr n ↦ (elim (cases_Bool (eqb y x)) [ inl e ↦ absurd (never_both (eqb x y) (eq-eqb x y (sym (eqb-true y x e))) n) | inr m ↦ m ∙ sym n ])
]

listed_from : (x k : ℕ) (xs : List ℕ) → stands_in x xs ≡ true → first_from k (λ y. eqb y x) xs ≡ place_among xs x + k
listed_from x k [] s = absurd (never_both false s refl)
listed_from x k (y ∷ ys) s = elim (cases_Bool (eqb x y)) [
  | inl e ↦ rw (turned x y, e) (let z : k ≡ 0 + k = omega arith in z)
  | inr n ↦ (
      let s' : stands_in x ys ≡ true = rw n at s in
      let r : first_from (suc k) (λ y. eqb y x) ys ≡ place_among ys x + suc k = listed_from x (suc k) ys s' in
      rw (turned x y, n) (r ∙ (let z : place_among ys x + suc k ≡ suc (place_among ys x) + k = omega arith in z)))
]

-- it is its place, counted from 1
pub listed_place : (x : ℕ) (xs : List ℕ) → stands_in x xs ≡ true → listed_at x xs ≡ place_among xs x + 1
listed_place x xs s = listed_from x 1 xs s

-- ---- the first darts of turns

pub record BeginsAt (lists : List (List TileDart)) (i : ℕ) (cycle : List TileDart) (d : TileDart) : Type 0 where
  pub some : 0 < length cycle
  pub first : tile_dart_code (get_or cycle 0 d) ≡ first_of (get_or (numbers_of lists) i [])

begins_first : (l : List TileDart) (lists : List (List TileDart)) (d : TileDart) → BeginsWithLeast (map tile_dart_code l) → BeginsAt (l ∷ lists) 0 l d
begins_first [] lists d b = absurd b
begins_first (x ∷ xs) lists d b = record { some = omega arith; first = refl }

pub begins_at : (lists : List (List TileDart)) (i : ℕ) (cycle : List TileDart) (d : TileDart) → AllByRecursion BeginsWithLeast (numbers_of lists)
    → slice_get lists i ≡ Some cycle → BeginsAt lists i cycle d
begins_at [] i cycle d b is = absurd (none_is_some cycle is)
begins_at (l ∷ lists) zero cycle d b is = subst (λ v. BeginsAt (l ∷ lists) 0 v d) (same_some l cycle is) (begins_first l lists d b.0)
begins_at (l ∷ lists) (suc i) cycle d b is =
    let r : BeginsAt lists i cycle d = begins_at lists i cycle d b.1 is in
    record { some = r.some; first = r.first }

-- ---- the list of a dart

pub record Listed (next : ℕ → ℕ) (lists : List (List ℕ)) (x i : ℕ) : Type 0 where
  pub first : ℕ
  pub rest : List ℕ
  pub inside : i < length lists
  pub is : get_or lists i [] ≡ first ∷ rest
  pub cycle : IsCycle next (first ∷ rest)
  pub least : BeginsWithLeast (first ∷ rest)
  pub there : stands_in x (first ∷ rest) ≡ true
  pub counts : (z : ℕ) → count_of z (first ∷ rest) ≤ count_of z (concat lists)

listed_here : (next : ℕ → ℕ) (l : List ℕ) (lists : List (List ℕ)) (x : ℕ) → IsCycle next l → BeginsWithLeast l → stands_in x l ≡ true → Listed next (l ∷ lists) x 0
listed_here next [] lists x c b s = absurd c
listed_here next (y ∷ ys) lists x c b s = record {
  first = y;
  rest = ys;
  inside = omega arith;
  is = refl;
  cycle = c;
  least = b;
  there = s;
  counts = λ z. over _ _ _ (count_join z (y ∷ ys) (concat lists));
}
  where
    over : (a b c : ℕ) → c ≡ a + b → a ≤ c
    over a b c e = omega arith

listed_later : (next : ℕ → ℕ) (l : List ℕ) (lists : List (List ℕ)) (x i : ℕ) → Listed next lists x i → Listed next (l ∷ lists) x (suc i)
listed_later next l lists x i r = record {
  first = r.first;
  rest = r.rest;
  inside = let inside = r.inside in omega arith;
  is = r.is;
  cycle = r.cycle;
  least = r.least;
  there = r.there;
  counts = λ z. over _ _ _ _ (r.counts z) (count_join z l (concat lists));
}
  where
    over : (a b c d : ℕ) → a ≤ b → c ≡ d + b → a ≤ c
    over a b c d h e = omega arith

listed : (next : ℕ → ℕ) (lists : List (List ℕ)) (x : ℕ) → AllByRecursion (IsCycle next) lists → AllByRecursion BeginsWithLeast lists
    → stands_in x (concat lists) ≡ true → (i : ℕ) × Listed next lists x i
listed next [] x c b s = absurd (never_both false s refl)
listed next (l ∷ lists) x c b s = elim (stands-either x l (concat lists) s) [
  | inl here ↦ (0, listed_here next l lists x c.0 b.0 here)
  | inr later ↦ (let r : (i : ℕ) × Listed next lists x i = listed next lists x c.1 b.1 later in (suc r.0, listed_later next l lists x r.0 r.1))
]

-- ---- nodes by their turns

kept_all : (xs : List ℕ) → filter (λ x. true) xs ≡ xs
kept_all [] = refl
kept_all (x ∷ xs) = ap (λ ys. x ∷ ys) (kept_all xs)

-- the darts, in their order, are the live ones
pub record AreLive (live : ℕ → Bool) (order : List ℕ) : Type 0 where
  pub rise : IsStrictlyIncreasing order
  pub each : (d : ℕ) → stands_in d order ≡ live d

module _ (law : LeastsBeginCycles) (next : ℕ → ℕ) (live : ℕ → Bool) (order : List ℕ) (a : AreLive live order) (lists : List (List ℕ)) (l : IsListing next live lists) where
  passing : ArePassing next live (λ d. true) order
  passing = record { rise = a.rise; each = λ d. a.each d ∙ all (live d); along = λ d h. refl }
    where
      all : (b : Bool) → b ≡ (b && true)
      all true = refl
      all false = refl

  -- the least darts are those that turns begin with
  pub firsts_are : map first_of lists ≡ leasts next order
  firsts_are = sym (law next live (λ d. true) order lists l passing ∙ kept_all (map first_of lists))

  pub lists_few : length lists ≤ length order
  lists_few =
      let e : length (map first_of lists) ≡ length lists = length-map lists first_of in
      let f : length (map first_of lists) ≡ length (leasts next order) = ap length firsts_are in
      let g : length (leasts next order) ≤ length order = fewer (is_least next (length order)) order in
      omega arith
    where
      fewer : (p : ℕ → Bool) (xs : List ℕ) → length (filter p xs) ≤ length xs
      fewer p [] = omega arith
      fewer p (x ∷ xs) = (
          let less : length (filter p xs) ≤ length xs = fewer p xs in
          elim (cases_Bool (p x)) [ inl t ↦ rw t (omega arith) | inr f ↦ rw f (omega arith) ])

  pub listed_once : (d : ℕ) → count_of d (concat lists) ≡ cond (stands_in d order) 1 0
  listed_once d = l.cycles.once d ∙ ap one_if (sym (a.each d))

  -- a turn has no more darts than there are
  turn_few : (x i : ℕ) (r : Listed next lists x i) → length (r.first ∷ r.rest) ≤ length order
  turn_few x i r = few_by_counts (r.first ∷ r.rest) order (λ z. elim (cases_Bool (stands_in z (r.first ∷ r.rest))) [
    | inl s ↦ (
        let here : 1 ≤ count_of z (r.first ∷ r.rest) = stands_counts z (r.first ∷ r.rest) s in
        let most : count_of z (r.first ∷ r.rest) ≤ count_of z (concat lists) = r.counts z in
        let once : count_of z (concat lists) ≡ one_if (stands_in z order) = listed_once z in
        elim (cases_Bool (stands_in z order)) [
          | inl t ↦ (
              let one : one_if (stands_in z order) ≡ 1 = ap one_if t in
              let some : 1 ≤ count_of z order = stands_counts z order t in
              omega arith)
          | inr f ↦ (let zero_times : one_if (stands_in z order) ≡ 0 = ap one_if f in absurd (omega arith))
        ])
    | inr n ↦ none z (r.first ∷ r.rest) (count_of z order) n
  ])
    where
      none : (z : ℕ) (xs : List ℕ) (k : ℕ) → stands_in z xs ≡ false → count_of z xs ≤ k
      none z xs k n = elim (cases_Bool (leb 1 (count_of z xs))) [
        | inl t ↦ absurd (never_both (stands_in z xs) (counts_stands z xs (leb-true 1 (count_of z xs) t)) n)
        | inr f ↦ (let low : count_of z xs < 1 = leb-false 1 (count_of z xs) f in omega arith)
      ]

  -- the least of a dart's turn is what the turn begins with
  turn_least : (x i : ℕ) (r : Listed next lists x i) → least_after next (length order) x ≡ r.first
  turn_least x i r =
      let q : Reaches next (λ d. true) (length (r.first ∷ r.rest)) x r.first = reaches next (λ d. true) r.first r.first r.rest r.cycle (λ w h. refl) x r.there in
      let few : length (r.first ∷ r.rest) ≤ length order = turn_few x i r in
      let some = q.few in
      let under : least_after next (length order) x ≤ r.first = least_under next q.count (length order) x r.first (omega arith) q.steps in
      let over : r.first ≤ least_after next (length order) x =
      least_over next (r.first ∷ r.rest) r.first r.cycle (first_lowest r.first r.rest r.least) (length order) x r.there in
      omega arith

  -- where the turn of a dart is listed, and what it begins with
  record IsTurn (d : ℕ) : Type 0 where
    i : ℕ
    inside : i < length lists
    there : stands_in d (get_or lists i []) ≡ true
    place : i + 1 ≡ listed_at (least_after next (length order) d) (map first_of lists)
    begins : stands_in (least_after next (length order) d) (map first_of lists) ≡ true

  turn_of : (d : ℕ) → stands_in d order ≡ true → IsTurn d
  turn_of d s =
      let counted : count_of d (concat lists) ≡ 1 = listed_once d ∙ ap one_if s in
      let r : (i : ℕ) × Listed next lists d i = listed next lists d l.cycles.cycles l.least (counts_stands d (concat lists) (omega arith)) in
      let w : Listed next lists d r.0 = r.1 in
      let many : length (map first_of lists) ≡ length lists = length-map lists first_of in
      let inside : r.0 < length (map first_of lists) = let h = w.inside in omega arith in
      let at : get_or (map first_of lists) r.0 0 ≡ w.first = get_or-map first_of lists r.0 [] 0 w.inside ∙ ap first_of w.is in
      let rise : IsStrictlyIncreasing (map first_of lists) =
      subst IsStrictlyIncreasing (sym firsts_are) (IsStrictlyIncreasing-filter (is_least next (length order)) order a.rise) in
      let place : r.0 ≡ place_among (map first_of lists) w.first = place_of_at (map first_of lists) rise r.0 w.first inside at in
      let there : stands_in w.first (map first_of lists) ≡ true =
      subst (λ v. stands_in v (map first_of lists) ≡ true) at (stands_at (map first_of lists) r.0 inside) in
      let least : least_after next (length order) d ≡ w.first = turn_least d r.0 w in
      record {
        i = r.0;
        inside = w.inside;
        there = subst (λ v. stands_in d v ≡ true) (sym w.is) w.there;
        place = ap (λ k. k + 1) place ∙ sym (listed_place w.first (map first_of lists) there) ∙ ap (λ v. listed_at v (map first_of lists)) (sym least);
        begins = ap (λ v. stands_in v (map first_of lists)) least ∙ there;
      }

  -- the number of a dart's turn is that of its node
  pub turn_number : (numbers : List ℕ) → AreByList order lists numbers → (d : ℕ) → stands_in d order ≡ true
      → kept_for order numbers d ≡ listed_at (least_after next (length order) d) (leasts next order)
  turn_number numbers b d s =
      let t : IsTurn d = turn_of d s in
      b.each t.i d t.inside t.there ∙ t.place ∙ ap (listed_at (least_after next (length order) d)) firsts_are

  -- which is that of a node
  pub turn_stands : (d : ℕ) → stands_in d order ≡ true → stands_in (least_after next (length order) d) (leasts next order) ≡ true
  turn_stands d s = ap (stands_in (least_after next (length order) d)) (sym firsts_are) ∙ (turn_of d s).begins
