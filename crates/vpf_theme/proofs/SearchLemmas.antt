-- Searching a directory.
use Rattle.std.proofs.Common.{◌≡◌, ℕ, zero, suc, ◌+◌, ◌-◌, ◌*◌, ◌^◌, ◌<◌, ◌≤◌, true, List, map, drop, Some, None, Ok, Err, refl, sym, ap, ◌∙◌, arith, inl, inr}
use Rattle.std.specs.List.{range_with_len}
use Rattle.std.proofs.Common.{Less, Equal, Greater}
use Rattle.std.proofs.lemmas.Bool.{cases_lt}
use Rattle.std.proofs.Math.Nat.{pow-succ', mul-le-mul_left}
use Rattle.vpf_theme.proofs.SpellingLemmas.{value-entry}
use Rattle.vpf_triplet.specs.declared.kinds.Count.TheVariants.{Fixed}
use Rattle.vpf_value.specs.Values.{Value}
use Rattle.vpf_value.specs.Reading.{CellAnswer, cell_from}
use Rattle.vpf_value.specs.Inner.Fitting.{FitsCell}
use Rattle.vpf_theme.specs.declared.layout.Layout.{Layout}
use Rattle.vpf_theme.specs.Layouts.{HasValues, entry_start}
use Rattle.vpf_theme.specs.Ordering.{value_cmp}
use Rattle.vpf_theme.specs.Entries.{Entry, IsWhole, value_of, value_read, entry_of, found_in}
use Rattle.vpf_theme.specs.Reading.{entries_line}
use Rattle.vpf_theme.specs.Inner.Views.{IsPlace}
use Rattle.vpf_theme.proofs.ValueLemmas.{FixedCells, never_cut}
use Rattle.vpf_theme.specs.Inner.KeyLaws.{same_yes, same_no}
use Rattle.vpf_theme.proofs.FaultLemmas.{whole_from, rises_from}
use Rattle.vpf_theme.proofs.OrderLemmas.{IsOf, sort_of, of_fits, of_read, cmp_trans, cmp_back, cmp_apart, cmp_equal}

-- ---- the values of a directory are of one field

read_is_of : (l : Layout) (bytes : List ℕ) (i : ℕ) (answer : CellAnswer) → answer ≡ cell_from l.order l.kind (Fixed l.count) (drop (entry_start l i) bytes) → FixedCells → HasValues l → IsWhole l bytes i → IsOf (sort_of l.kind) (value_read answer)
read_is_of l bytes i (Ok r) e laws values whole = of_read l.order l.kind l.count (drop (entry_start l i) bytes) r.0 r.1 values.0 (sym e)
read_is_of l bytes i (Err code) e laws values whole = absurd (never_cut l bytes i code laws values whole (sym e))

pub value_is_of : (l : Layout) (bytes : List ℕ) (i : ℕ) → FixedCells → HasValues l → entries_line l bytes ≡ None → i < l.entries → IsOf (sort_of l.kind) (value_of l bytes i)
unfolding value_of
value_is_of l bytes i laws values h k = read_is_of l bytes i (cell_from l.order l.kind (Fixed l.count) (drop (entry_start l i) bytes)) refl laws values (whole_from l bytes i h k)

-- ---- sorted directories

rises_by : (l : Layout) (bytes : List ℕ) (i d : ℕ) → FixedCells → HasValues l → entries_line l bytes ≡ None → l.sorted ≡ true → i + suc d < l.entries → value_cmp (value_of l bytes i) (value_of l bytes (i + suc d)) ≡ Less
rises_by l bytes i zero laws values h s k = let e : i + suc zero ≡ i + 1 = omega arith in rw e (rises_from l bytes i h s (omega arith))
rises_by l bytes i (suc d) laws values h s k =
    let e : i + suc (suc d) ≡ i + suc d + 1 = omega arith in
    rw e (cmp_trans (value_of l bytes i) (value_of l bytes (i + suc d)) (value_of l bytes (i + suc d + 1))
    (rises_by l bytes i d laws values h s (omega arith)) (rises_from l bytes (i + suc d) h s (omega arith)))

pub rises : (l : Layout) (bytes : List ℕ) (i j : ℕ) → FixedCells → HasValues l → entries_line l bytes ≡ None → l.sorted ≡ true → i < j → j < l.entries → value_cmp (value_of l bytes i) (value_of l bytes j) ≡ Less
rises l bytes i j laws values h s a b = let e : i + suc (j - (i + 1)) ≡ j = omega arith in let r = rises_by l bytes i (j - (i + 1)) laws values h s (omega arith) in rw e at r

-- a directory without faults that is sorted, and a value that fits it
pub record Searched (l : Layout) (bytes : List ℕ) (v : Value) : Type 0 where
  pub laws : FixedCells
  pub values : HasValues l
  pub faultless : entries_line l bytes ≡ None
  pub sorted : l.sorted ≡ true
  pub fits : FitsCell l.kind (Fixed l.count) v

abbrev pub Below : Layout → List ℕ → Value → ℕ → Type 0
Below l bytes v low = (i : ℕ) → i < low → value_cmp (value_of l bytes i) v ≡ Less

abbrev pub Above : Layout → List ℕ → Value → ℕ → Type 0
Above l bytes v high = (i : ℕ) → high ≤ i → i < l.entries → value_cmp v (value_of l bytes i) ≡ Less

v_is_of : (l : Layout) (bytes : List ℕ) (v : Value) → Searched l bytes v → IsOf (sort_of l.kind) v
v_is_of l bytes v s = of_fits l.kind (Fixed l.count) v s.values.0 s.fits.1

e_is_of : (l : Layout) (bytes : List ℕ) (v : Value) (i : ℕ) → Searched l bytes v → i < l.entries → IsOf (sort_of l.kind) (value_of l bytes i)
e_is_of l bytes v i s h = value_is_of l bytes i s.laws s.values s.faultless h

pub below_more : (l : Layout) (bytes : List ℕ) (v : Value) (middle : ℕ) → Searched l bytes v → middle < l.entries → value_cmp (value_of l bytes middle) v ≡ Less → Below l bytes v (middle + 1)
below_more l bytes v middle s h x i k = elim (cases_lt i middle) [
  | inl lt ↦ cmp_trans (value_of l bytes i) (value_of l bytes middle) v (rises l bytes i middle s.laws s.values s.faultless s.sorted lt h) x
  | inr ge ↦ let e : i ≡ middle = omega arith in rw e x
]

pub above_more : (l : Layout) (bytes : List ℕ) (v : Value) (middle : ℕ) → Searched l bytes v → middle < l.entries → value_cmp (value_of l bytes middle) v ≡ Greater → Above l bytes v middle
above_more l bytes v middle s h x i k m =
    let y = cmp_back (value_of l bytes middle) v x in
    elim (cases_lt middle i) [
      | inl lt ↦ cmp_trans v (value_of l bytes middle) (value_of l bytes i) y (rises l bytes middle i s.laws s.values s.faultless s.sorted lt m)
      | inr ge ↦ let e : i ≡ middle = omega arith in rw e y
    ]

-- ---- the first entry of a value

found_from : (entry : ℕ → Entry) (v : Value) (a n i : ℕ) → a ≤ i → i < a + n → (entry i).value ≡ v → ((j : ℕ) → a ≤ j → j < i → (entry j).value ≡ v → ⊥) → found_in v (map entry (range_with_len a n)) ≡ Some (entry i).rows
found_from entry v a zero i low high is before = absurd (omega arith)
found_from entry v a (suc n) i low high is before = elim (cases_lt a i) [
  | inl lt ↦ rw (same_no (entry a).value v (before a (omega arith) lt)) (found_from entry v (a + 1) n i (omega arith) (omega arith) is (λ j x y. before j (omega arith) y))
  | inr ge ↦ let e : a ≡ i = omega arith in rw (e, same_yes (entry i).value v is) refl
]

found_none : (entry : ℕ → Entry) (v : Value) (a n : ℕ) → ((j : ℕ) → a ≤ j → j < a + n → (entry j).value ≡ v → ⊥) → found_in v (map entry (range_with_len a n)) ≡ None
found_none entry v a zero none = refl
found_none entry v a (suc n) none = rw (same_no (entry a).value v (none a (omega arith) (omega arith))) (found_none entry v (a + 1) n (λ j x y. none j (omega arith) (omega arith)))

pub place_is : (l : Layout) (bytes : List ℕ) (v : Value) (i : ℕ) → i < l.entries → value_of l bytes i ≡ v → ((j : ℕ) → j < i → value_of l bytes j ≡ v → ⊥) → IsPlace l bytes v (Some i)
place_is l bytes v i h is before = (h, found_from (entry_of l bytes) v 0 l.entries i (omega arith) (omega arith) (value-entry l bytes i ∙ is) (λ j x y e. before j y (sym (value-entry l bytes j) ∙ e)))

pub place_none : (l : Layout) (bytes : List ℕ) (v : Value) → ((j : ℕ) → j < l.entries → value_of l bytes j ≡ v → ⊥) → IsPlace l bytes v None
place_none l bytes v none = found_none (entry_of l bytes) v 0 l.entries (λ j x y e. none j (omega arith) (sym (value-entry l bytes j) ∙ e))

pub sorted_place : (l : Layout) (bytes : List ℕ) (v : Value) (middle : ℕ) → Searched l bytes v → middle < l.entries → value_cmp (value_of l bytes middle) v ≡ Equal → IsPlace l bytes v (Some middle)
sorted_place l bytes v middle s h x =
    let is = cmp_equal (sort_of l.kind) (value_of l bytes middle) v (e_is_of l bytes v middle s h) (v_is_of l bytes v s) x in
    place_is l bytes v middle h is (λ j k e. cmp_apart (value_of l bytes j) (value_of l bytes middle) (rises l bytes j middle s.laws s.values s.faultless s.sorted k h) (e ∙ sym is))

pub sorted_none : (l : Layout) (bytes : List ℕ) (v : Value) (low : ℕ) → Searched l bytes v → Below l bytes v low → Above l bytes v low → IsPlace l bytes v None
sorted_none l bytes v low s below above = place_none l bytes v (λ j h e. elim (cases_lt j low) [
  | inl lt ↦ cmp_apart (value_of l bytes j) v (below j lt) e
  | inr ge ↦ cmp_apart v (value_of l bytes j) (above j ge h) (sym e)
])

-- ---- how many steps

twice : (now old : ℕ) → old ≤ now → 2 ^ (now + 1 - old) ≡ 2 * 2 ^ (now - old)
twice now old h = let e : now + 1 - old ≡ suc (now - old) = omega arith in ap (λ (k : ℕ). 2 ^ k) e ∙ pow-succ' 2 (now - old)

cost_step : (p w n : ℕ) → p * w ≤ n → 0 < w → 2 * p ≤ 2 * n + 1
cost_step p w n h s = grind arith

left_step : (p w v n : ℕ) → p * w ≤ n → 2 * v ≤ w → (2 * p) * v ≤ n
left_step p w v n h s = omega (arith, mul-le-mul_left p s)

pub tick_bound : (old now next w n : ℕ) → next ≡ now + 1 → old ≤ now → 0 < w → 2 ^ (now - old) * w ≤ n → 2 ^ (next - old) ≤ 2 * n + 1
tick_bound old now next w n e h s k = rw (e, twice now old h) (cost_step (2 ^ (now - old)) w n k s)

pub tick_left : (old now next w v n : ℕ) → next ≡ now + 1 → old ≤ now → 2 ^ (now - old) * w ≤ n → 2 * v ≤ w → 2 ^ (next - old) * v ≤ n
tick_left old now next w v n e h k s = rw (e, twice now old h) (left_step (2 ^ (now - old)) w v n k s)
