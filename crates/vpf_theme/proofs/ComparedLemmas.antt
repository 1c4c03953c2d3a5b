-- How many entries a search compares.
use Rattle.std.proofs.Common.{◌≡◌, ℕ, zero, suc, ◌+◌, ◌-◌, ◌/◌, ◌<◌, ◌≤◌, false, ltb, List, map, refl, sym, ap, ◌∙◌, zero-add, arith, inl, inr}
use Rattle.std.proofs.Common.{Less, Equal, Greater}
use Rattle.std.specs.List.{range_with_len}
use Rattle.std.proofs.lemmas.Bool.{cases_lt, lt-ltb}
use Rattle.std.proofs.lemmas.List.FromFn.{length-map-range_with_len}
use Rattle.vpf_theme.proofs.SpellingLemmas.{value-entry}
use Rattle.vpf_value.specs.Values.{Value}
use Rattle.vpf_theme.specs.declared.layout.Layout.{Layout}
use Rattle.vpf_theme.specs.Ordering.{value_cmp}
use Rattle.vpf_theme.specs.Entries.{Entry, entry_of, theme_in, value_of}
use Rattle.vpf_theme.specs.Findings.{entry_at}
use Rattle.vpf_theme.specs.Inner.KeyLaws.{same_yes, same_no}
use Rattle.vpf_theme.specs.Inner.Searching.{compared_between, compared_by_halves, compared_in_turn}
use Rattle.vpf_theme.proofs.EntryLemmas.{view_value}

-- ---- one by one

hit_from : (entry : ℕ → Entry) (v : Value) (a n i : ℕ) → a ≤ i → i < a + n → (entry i).value ≡ v → ((j : ℕ) → a ≤ j → j < i → (entry j).value ≡ v → ⊥) → compared_in_turn v (map entry (range_with_len a n)) ≡ i + 1 - a
unfolding compared_in_turn
hit_from entry v a zero i low high is before = absurd (omega arith)
hit_from entry v a (suc n) i low high is before = elim (cases_lt a i) [
  | inl lt ↦ rw (same_no (entry a).value v (before a (omega arith) lt), hit_from entry v (a + 1) n i (omega arith) (omega arith) is (λ j x y. before j (omega arith) y)) (omega arith)
  | inr ge ↦ let e : i ≡ a = omega arith in rw (same_yes (entry a).value v (ap (λ (k : ℕ). (entry k).value) (sym e) ∙ is)) (omega arith)
]

miss_from : (entry : ℕ → Entry) (v : Value) (a n : ℕ) → ((j : ℕ) → a ≤ j → j < a + n → (entry j).value ≡ v → ⊥) → compared_in_turn v (map entry (range_with_len a n)) ≡ n
unfolding compared_in_turn
miss_from entry v a zero none = refl
miss_from entry v a (suc n) none = rw (same_no (entry a).value v (none a (omega arith) (omega arith)), miss_from entry v (a + 1) n (λ j x y. none j (omega arith) (omega arith))) (omega arith)

pub turn_hit : (l : Layout) (bytes : List ℕ) (v : Value) (i : ℕ) → i < l.entries → value_of l bytes i ≡ v → ((j : ℕ) → j < i → value_of l bytes j ≡ v → ⊥) → compared_in_turn v (theme_in l bytes).entries ≡ i + 1
turn_hit l bytes v i h is before = hit_from (entry_of l bytes) v 0 l.entries i (omega arith) (omega arith) (value-entry l bytes i ∙ is) (λ j x y e. before j y (sym (value-entry l bytes j) ∙ e)) ∙ omega arith

pub turn_miss : (l : Layout) (bytes : List ℕ) (v : Value) → ((j : ℕ) → j < l.entries → value_of l bytes j ≡ v → ⊥) → compared_in_turn v (theme_in l bytes).entries ≡ l.entries
turn_miss l bytes v none = miss_from (entry_of l bytes) v 0 l.entries (λ j x y e. none j (omega arith) (sym (value-entry l bytes j) ∙ e))

-- ---- by halves

-- all that a search by halves compares
abbrev pub whole : Layout → List ℕ → Value → ℕ
whole l bytes v = compared_between l.entries v (theme_in l bytes).entries 0 l.entries

-- so many were compared, and the part from `low` up to `high` is left
pub record Halved (l : Layout) (bytes : List ℕ) (v : Value) (count low high : ℕ) : Type 0 where
  pub room : count + (high - low) ≤ l.entries
  pub gone : count + compared_between (l.entries - count) v (theme_in l bytes).entries low high ≡ whole l bytes v

between_none : (steps : ℕ) (v : Value) (es : List Entry) (low high : ℕ) → high ≤ low → compared_between steps v es low high ≡ 0
unfolding compared_between
between_none zero v es low high h = refl
between_none (suc steps) v es low high h = let e : ltb low high ≡ false = grind arith in rw e refl

between_less : (steps : ℕ) (v : Value) (es : List Entry) (low high : ℕ) → low < high → value_cmp (entry_at es (low + (high - low) / 2)).value v ≡ Less → compared_between (suc steps) v es low high ≡ 1 + compared_between steps v es (low + (high - low) / 2 + 1) high
unfolding compared_between
between_less steps v es low high h e = rw (lt-ltb low high h, e) refl

between_equal : (steps : ℕ) (v : Value) (es : List Entry) (low high : ℕ) → low < high → value_cmp (entry_at es (low + (high - low) / 2)).value v ≡ Equal → compared_between (suc steps) v es low high ≡ 1
unfolding compared_between
between_equal steps v es low high h e = rw (lt-ltb low high h, e) refl

between_greater : (steps : ℕ) (v : Value) (es : List Entry) (low high : ℕ) → low < high → value_cmp (entry_at es (low + (high - low) / 2)).value v ≡ Greater → compared_between (suc steps) v es low high ≡ 1 + compared_between steps v es low (low + (high - low) / 2)
unfolding compared_between
between_greater steps v es low high h e = rw (lt-ltb low high h, e) refl

-- the middle entry is the one that is read
middle : (l : Layout) (bytes : List ℕ) (i : ℕ) → i < l.entries → (entry_at (theme_in l bytes).entries i).value ≡ value_of l bytes i
middle l bytes i h = view_value l bytes (theme_in l bytes) i refl h

pub halved_first : (l : Layout) (bytes : List ℕ) (v : Value) (old : ℕ) → Halved l bytes v (old - old) 0 l.entries
halved_first l bytes v old =
    let none : old - old ≡ 0 = omega arith in
    let all : l.entries - 0 ≡ l.entries = omega arith in
    rw none (record { room = omega arith; gone = rw all (zero-add (whole l bytes v)) })

pub halved_less : (l : Layout) (bytes : List ℕ) (v : Value) (old now next low high : ℕ) → next ≡ now + 1 → old ≤ now → low < high → high ≤ l.entries → value_cmp (value_of l bytes (low + (high - low) / 2)) v ≡ Less
    → Halved l bytes v (now - old) low high → Halved l bytes v (next - old) (low + (high - low) / 2 + 1) high
halved_less l bytes v old now next low high e k lt within x h =
    let es = (theme_in l bytes).entries in
    let more : next - old ≡ (now - old) + 1 = omega arith in
    let left : l.entries - (now - old) ≡ suc (l.entries - ((now - old) + 1)) = omega (arith, h.room) in
    let step = between_less (l.entries - ((now - old) + 1)) v es low high lt (rw (middle l bytes (low + (high - low) / 2) (omega arith)) x) in
    let gone = rw (left, step) at h.gone in
    rw more (record { room = omega (arith, h.room); gone = omega (arith, gone) })

pub halved_greater : (l : Layout) (bytes : List ℕ) (v : Value) (old now next low high : ℕ) → next ≡ now + 1 → old ≤ now → low < high → high ≤ l.entries → value_cmp (value_of l bytes (low + (high - low) / 2)) v ≡ Greater
    → Halved l bytes v (now - old) low high → Halved l bytes v (next - old) low (low + (high - low) / 2)
halved_greater l bytes v old now next low high e k lt within x h =
    let es = (theme_in l bytes).entries in
    let more : next - old ≡ (now - old) + 1 = omega arith in
    let left : l.entries - (now - old) ≡ suc (l.entries - ((now - old) + 1)) = omega (arith, h.room) in
    let step = between_greater (l.entries - ((now - old) + 1)) v es low high lt (rw (middle l bytes (low + (high - low) / 2) (omega arith)) x) in
    let gone = rw (left, step) at h.gone in
    rw more (record { room = omega (arith, h.room); gone = omega (arith, gone) })

-- in the theme's own number of entries
whole_is : (l : Layout) (bytes : List ℕ) (v : Value) → compared_by_halves v (theme_in l bytes).entries ≡ whole l bytes v
whole_is l bytes v = ap (λ (n : ℕ). compared_between n v (theme_in l bytes).entries 0 n) (length-map-range_with_len (entry_of l bytes) 0 l.entries)

pub halved_equal : (l : Layout) (bytes : List ℕ) (v : Value) (old now next low high : ℕ) → next ≡ now + 1 → old ≤ now → low < high → high ≤ l.entries → value_cmp (value_of l bytes (low + (high - low) / 2)) v ≡ Equal
    → Halved l bytes v (now - old) low high → next ≡ old + compared_by_halves v (theme_in l bytes).entries
halved_equal l bytes v old now next low high e k lt within x h =
    let es = (theme_in l bytes).entries in
    let left : l.entries - (now - old) ≡ suc (l.entries - ((now - old) + 1)) = omega (arith, h.room) in
    let step = between_equal (l.entries - ((now - old) + 1)) v es low high lt (rw (middle l bytes (low + (high - low) / 2) (omega arith)) x) in
    let gone = rw (left, step) at h.gone in
    rw (whole_is l bytes v) (omega (arith, gone))

pub halved_none : (l : Layout) (bytes : List ℕ) (v : Value) (old now low high : ℕ) → old ≤ now → high ≤ low → Halved l bytes v (now - old) low high → now ≡ old + compared_by_halves v (theme_in l bytes).entries
halved_none l bytes v old now low high k done h =
    let gone = rw (between_none (l.entries - (now - old)) v (theme_in l bytes).entries low high done) at h.gone in
    rw (whole_is l bytes v) (omega (arith, gone))
