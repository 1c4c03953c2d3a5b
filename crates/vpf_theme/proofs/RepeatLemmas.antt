-- Values sorted: an entry whose value an earlier one has stands beside another of that value.
use Rattle.std.proofs.Common.{◌≡◌, ℕ, zero, suc, ◌+◌, ◌-◌, ◌<◌, ◌≤◌, Bool, true, false, Option, Some, None, List, [], ◌∷◌, ◌++◌, length, take, get_or, Ordering, Less, Equal, Greater, refl, sym, ap, subst, ◌∙◌, arith, inl, inr}
use Rattle.std.specs.Prelude.{nat_eq, All}
use Rattle.std.specs.Cmp.{IsTotalOrder}
use Rattle.std.specs.List.{IsDistinct}
use Rattle.std.specs.List.Sorted.{IsPermutation, IsSorted}
use Rattle.std.specs.Ordering.{is_lt, nat_cmp, ordering_reverse, ordering_then}
use Rattle.std.proofs.lemmas.Bool.{cases_lt, eqb-false, eqb-true, eq-eqb, ne_eqb}
use Rattle.std.proofs.lemmas.Cmp.{nat_cmp_total, on_total, then_total, tied_itself}
use Rattle.std.proofs.lemmas.List.{get_or_append_left, get_or_default, get_or_push, length-append}
use Rattle.std.proofs.lemmas.List.Elements.{Contains-get_or}
use Rattle.std.proofs.lemmas.List.MinMax.{ranks_by}
use Rattle.std.proofs.lemmas.List.Sorted.{All-permutation, Contains-permutation, sorted_far}
use Rattle.std.proofs.lemmas.Map.Keys.{IsDistinct-IsPermutation, IsDistinct-from_apart, apart_from_distinct, ge_from_not_lt}
use Rattle.vpf_value.specs.Values.{Value, view}
use Rattle.vpf_theme.specs.declared.repeating.PlacedCell.{PlacedCell}
use Rattle.vpf_theme.specs.declared.repeating.Repeat.{Repeat}
use Rattle.vpf_theme.specs.Ordering.{value_cmp}
use Rattle.vpf_theme.specs.Entries.{Entry}
use Rattle.vpf_theme.specs.Findings.{entry_at, entry_place}
use Rattle.vpf_theme.specs.Inner.KeyLaws.{same_no, same_yes}
use Rattle.vpf_theme.specs.Inner.Repeating.{AreLevel, HaveOneField, HoldPlaced, LeastPair, TellsRepeat, no_placed, placed_at, placed_cmp}
use Rattle.vpf_theme.proofs.AgreementLemmas.{no_place}
use Rattle.vpf_theme.proofs.OrderLemmas.{values_total}

-- ---- the order

pub placed_total : IsTotalOrder placed_cmp
placed_total = then_total (on_total (λ (p : PlacedCell). view p.cell) values_total) (on_total (λ (p : PlacedCell). p.place) nat_cmp_total)

then_not_less : (a b : Ordering) → is_lt (ordering_then a b) ≡ false → is_lt a ≡ false
then_not_less Less b h = h
then_not_less Equal b h = refl
then_not_less Greater b h = refl

then_tied : (a b : Ordering) → a ≡ Equal → is_lt (ordering_then a b) ≡ false → is_lt b ≡ false
then_tied a b e h = let k = rw e at h in k

between : (a : Ordering) → is_lt a ≡ false → is_lt (ordering_reverse a) ≡ false → a ≡ Equal
between Less h k = absurd cc
between Equal h k = refl
between Greater h k = absurd cc

level_same : (v u : Value) → v ≡ u → value_cmp v u ≡ Equal
level_same v u e = subst (λ (x : Value). value_cmp v x ≡ Equal) e (tied_itself values_total v)

level_back : (v u : Value) → value_cmp v u ≡ Equal → value_cmp u v ≡ Equal
level_back v u e = values_total.antisymm u v ∙ ap ordering_reverse e

-- ---- the values of entries, entry by entry

pub placed_more : (es : List Entry) (n : ℕ) (ps more : List PlacedCell) (p : PlacedCell) → HoldPlaced es n ps
    → more ≡ ps ++ p ∷ [] → p.place ≡ n → view p.cell ≡ (entry_at es n).value → HoldPlaced es (n + 1) more
placed_more es n ps more p h pushed place value = record {
  len = rw pushed (omega (arith, length-append ps (p ∷ []), h.len));
  place = λ k m. by k m (λ (q : PlacedCell) (j : ℕ). q.place ≡ j) h.place place;
  value = λ k m. by k m (λ (q : PlacedCell) (j : ℕ). view q.cell ≡ (entry_at es j).value) h.value value;
}
  where
    by : (k : ℕ) → k < n + 1 → (P : PlacedCell → ℕ → Type 0) → ((j : ℕ) → j < n → P (placed_at ps j) j) → P p n → P (placed_at more k) k
    by k m P old new = elim (cases_lt k n) [
      | inl lt ↦ let e = get_or_append_left ps (p ∷ []) no_placed k (omega (arith, h.len)) in rw (pushed, e) (old k lt)
      | inr ge ↦
          let z : n ≡ k = omega arith in
          let e = get_or_push ps p no_placed k (h.len ∙ z) in
          rw (pushed, e) (subst (P p) z new)
    ]

-- ---- the values of entries, sorted

abbrev pub value_in : List PlacedCell → ℕ → Value
value_in ps m = view (placed_at ps m).cell

abbrev pub place_in : List PlacedCell → ℕ → ℕ
place_in ps m = (placed_at ps m).place

abbrev pub entry_value : List Entry → ℕ → Value
entry_value es i = (entry_at es i).value

pub record AreSorted (es : List Entry) (ps : List PlacedCell) : Type 0 where
  pub one : HaveOneField es
  pub within : (m : ℕ) → m < length ps → place_in ps m < length es
  pub value : (m : ℕ) → m < length ps → value_in ps m ≡ entry_value es (place_in ps m)
  pub each : (i : ℕ) → i < length es → (m : ℕ) × (m < length ps) × (place_in ps m ≡ i)
  pub apart : (m : ℕ) → m + 1 < length ps → place_in ps m ≡ place_in ps (m + 1) → ⊥
  pub up : (m k : ℕ) → m ≤ k → k < length ps → is_lt (placed_cmp (placed_at ps k) (placed_at ps m)) ≡ false

abbrev same_place : PlacedCell → PlacedCell → Bool
same_place a b = nat_eq a.place b.place

turned : (a b : ℕ) → nat_eq a b ≡ nat_eq b a
turned a b = by (nat_eq b a) refl
  where
    by : (t : Bool) → nat_eq b a ≡ t → nat_eq a b ≡ nat_eq b a
    by true e = let q = eqb-true b a e in rw e (eq-eqb a b (sym q))
    by false e = rw e (ne_eqb a b (λ q. eqb-false b a e (sym q)))

held_apart : (es : List Entry) (old : List PlacedCell) → HoldPlaced es (length es) old → IsDistinct same_place old
held_apart es old h = IsDistinct-from_apart same_place old (λ i j d lt m.
    let a = get_or_default old i d no_placed (omega arith) in
    let b = get_or_default old j d no_placed m in
    let p = ap (λ (x : PlacedCell). x.place) a ∙ h.place i (omega (arith, h.len)) in
    let q = ap (λ (x : PlacedCell). x.place) b ∙ h.place j (omega (arith, h.len)) in
    ne_eqb (get_or old i d).place (get_or old j d).place (λ e. absurd (omega (arith, p, q, e))))

abbrev IsOfEntry : List Entry → PlacedCell → Type 0
IsOfEntry es p = (p.place < length es) × (view p.cell ≡ entry_value es p.place)

held_all : (es : List Entry) (old : List PlacedCell) → HoldPlaced es (length es) old → All (IsOfEntry es) old
held_all es old h k d m =
    let n : k < length es = omega (arith, h.len) in
    let p = h.place k n in
    subst (IsOfEntry es) (get_or_default old k no_placed d m) (omega (arith, p), h.value k n ∙ ap (entry_value es) (sym p))

pub are_sorted : (es : List Entry) (old new : List PlacedCell) → HaveOneField es → HoldPlaced es (length es) old → IsPermutation old new → IsSorted placed_cmp new
    → AreSorted es new
are_sorted es old new one held same up =
    let all = All-permutation (IsOfEntry es) old new same (held_all es old held) in
    record {
      one = one;
      within = λ m h. (all m no_placed h).0;
      value = λ m h. (all m no_placed h).1;
      each = λ i h.
          let s = placed_at old i in
          let c = Contains-permutation old new s same (Contains-get_or old i no_placed (omega (arith, held.len))) in
          let e = ap (λ (p : PlacedCell). p.place) (get_or_default new c.0 no_placed s c.1 ∙ c.2) in
          (c.0, c.1, e ∙ held.place i h);
      apart = λ m h e.
          let one = IsDistinct-IsPermutation same_place (λ a b. turned a.place b.place) old new same (held_apart es old held) in
          let d = apart_from_distinct same_place new m (m + 1) no_placed one (omega arith) h in
          eqb-false _ _ d e;
      up = λ m k h l. sorted_far (λ a b. is_lt (placed_cmp a b)) (ranks_by placed_total (λ (p : PlacedCell). p)) new up m k no_placed h l;
    }

value_up : (es : List Entry) (ps : List PlacedCell) → AreSorted es ps → (m k : ℕ) → m ≤ k → k < length ps
    → is_lt (value_cmp (value_in ps k) (value_in ps m)) ≡ false
value_up es ps a m k h l = then_not_less (value_cmp (value_in ps k) (value_in ps m)) (nat_cmp (place_in ps k) (place_in ps m)) (a.up m k h l)

place_up : (es : List Entry) (ps : List PlacedCell) → AreSorted es ps → (m k : ℕ) → m ≤ k → k < length ps → value_cmp (value_in ps k) (value_in ps m) ≡ Equal
    → place_in ps m ≤ place_in ps k
place_up es ps a m k h l e =
    let below = then_tied (value_cmp (value_in ps k) (value_in ps m)) (nat_cmp (place_in ps k) (place_in ps m)) e (a.up m k h l) in
    ge_from_not_lt (place_in ps k) (place_in ps m) below

-- an entry stands behind a neighbour of its value
record HasNeighbour (ps : List PlacedCell) (i : ℕ) : Type 0 where
  m : ℕ
  within : m + 1 < length ps
  at : place_in ps (m + 1) ≡ i
  level : AreLevel ps m

-- where an entry before has its value
neighbour : (es : List Entry) (ps : List PlacedCell) → AreSorted es ps → (i j : ℕ) → j < i → i < length es → entry_value es i ≡ entry_value es j
    → HasNeighbour ps i
neighbour es ps a i j low high e =
    let mi = a.each i high in
    let mj = a.each j (omega arith) in
    let k = mi.0 in
    let l = mj.0 in
    let vi : value_in ps k ≡ entry_value es i = a.value k mi.1 ∙ ap (entry_value es) mi.2 in
    let vj : value_in ps l ≡ entry_value es j = a.value l mj.1 ∙ ap (entry_value es) mj.2 in
    let same : value_in ps k ≡ value_in ps l = vi ∙ e ∙ sym vj in
    let before : l < k = order k l mi.1 mj.1 mi.2 mj.2 same in
    let m = k - 1 in
    let z : m + 1 ≡ k = omega arith in
    let above = value_up es ps a m k (omega arith) mi.1 in
    let below = value_up es ps a l m (omega arith) (omega (arith, mi.1)) in
    let back : value_cmp (value_in ps m) (value_in ps l) ≡ ordering_reverse (value_cmp (value_in ps k) (value_in ps m)) =
    ap (value_cmp (value_in ps m)) (sym same) ∙ values_total.antisymm (value_in ps m) (value_in ps k) in
    let level = between (value_cmp (value_in ps k) (value_in ps m)) above (rw back at below) in
    record {
      m = m;
      within = omega (arith, mi.1);
      at = rw z mi.2;
      level = rw z (level_back (value_in ps k) (value_in ps m) level);
    }
  where
    order : (k l : ℕ) → k < length ps → l < length ps → place_in ps k ≡ i → place_in ps l ≡ j → value_in ps k ≡ value_in ps l → l < k
    order k l hk hl pi pj same = elim (cases_lt l k) [
      | inl h ↦ h
      | inr h ↦
          let g = place_up es ps a k l h hl (level_same (value_in ps l) (value_in ps k) (sym same)) in
          absurd (omega (arith, g, pi, pj))
    ]

-- neighbours of one value stand in the order of their places
in_order : (es : List Entry) (ps : List PlacedCell) → AreSorted es ps → (m : ℕ) → m + 1 < length ps → AreLevel ps m → place_in ps m < place_in ps (m + 1)
in_order es ps a m h e =
    let g = place_up es ps a m (m + 1) (omega arith) h (level_back (value_in ps m) (value_in ps (m + 1)) e) in
    elim (cases_lt (place_in ps m) (place_in ps (m + 1))) [
      | inl k ↦ k
      | inr k ↦ absurd (a.apart m h (omega (arith, g, k)))
    ]

-- ---- the first place of a value

first_place : (es : List Entry) (v : Value) (i j : ℕ) → j < i → j < length es → entry_value es j ≡ v → ((k : ℕ) → k < j → entry_value es k ≡ v → ⊥)
    → entry_place (take i es) v ≡ Some j
first_place [] v i j h m is before = absurd (omega arith)
first_place (e ∷ es) v zero j h m is before = absurd (omega arith)
first_place (e ∷ es) v (suc i) zero h m is before = rw (same_yes e.value v is) refl
first_place (e ∷ es) v (suc i) (suc j) h m is before =
    let rest = first_place es v i j (omega arith) (omega arith) is (λ k l. before (suc k) (omega arith)) in
    rw (same_no e.value v (before zero (omega arith)), rest) refl

-- ---- the least pair

level_entries : (es : List Entry) (ps : List PlacedCell) → AreSorted es ps → (m : ℕ) → m + 1 < length ps → AreLevel ps m
    → entry_value es (place_in ps m) ≡ entry_value es (place_in ps (m + 1))
level_entries es ps a m h e =
    let low : m < length ps = omega arith in
    a.one (place_in ps m) (place_in ps (m + 1)) (a.within m low) (a.within (m + 1) h) (rw (← a.value m low, ← a.value (m + 1) h) e)

pub pair_told : (es : List Entry) (ps : List PlacedCell) (repeat : Option Repeat) → AreSorted es ps → LeastPair ps (length ps) repeat → TellsRepeat es repeat
pair_told es ps None a none = λ i h. no_place es (entry_value es i) i (λ j lt n e. let b = neighbour es ps a i j lt h (sym e) in none b.m b.within b.level)
pair_told es ps (Some r) a (p, least) =
    let order : r.earlier < r.at = rw (p.earlier, p.at) (in_order es ps a p.k p.within p.level) in
    let inside : r.at < length es = rw p.at (a.within (p.k + 1) p.within) in
    let same : entry_value es r.earlier ≡ entry_value es r.at = rw (p.earlier, p.at) (level_entries es ps a p.k p.within p.level) in
    record {
      within = inside;
      earlier = first_place es (entry_value es r.at) r.at r.earlier order (omega arith) same (λ k l e. alone r.earlier k order l inside (same ∙ sym e));
      first = λ i h. no_place es (entry_value es i) i (λ j lt n e. alone i j h lt inside (sym e));
    }
  where
    alone : (i j : ℕ) → i < r.at → j < i → r.at < length es → entry_value es i ≡ entry_value es j → ⊥
    alone i j h lt inside e = let b = neighbour es ps a i j lt (omega arith) e in absurd (omega (arith, least b.m b.within b.level, b.at))
