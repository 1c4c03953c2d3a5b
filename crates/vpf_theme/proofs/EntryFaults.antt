-- A file is refused exactly at its first fault.
use Rattle.std.proofs.Common.{◌≡◌, ℕ, zero, suc, ◌+◌, ◌-◌, ◌<◌, ◌≤◌, ◌&&◌, Bool, true, false, not, List, length, map, Option, Some, None, Result, Ok, Err, Less, refl, sym, ap, subst, ◌∙◌, arith, inl, inr}
use Rattle.std.specs.Prelude.{IfErr, nat_lt}
use Rattle.std.specs.List.{range_with_len}
use Rattle.std.specs.Option.{option_or}
use Rattle.std.specs.Ordering.{is_lt}
use Rattle.std.proofs.lemmas.Bool.{cases_lt, lt-ltb, ltb-false, ltb-true}
use Rattle.std.proofs.lemmas.List.FromFn.{length-map-range_with_len}
use Rattle.vpf_base.specs.Results.{◌>>=◌}
use Rattle.vpf_base.specs.Bytes.{IsBytes}
use Rattle.vpf_base.proofs.Booleans.{all_three, not_true}
use Rattle.vpf_base.proofs.Results.{failed, err_is, no_ok}
use Rattle.vpf_base.specs.declared.orders.Order.{Order}
use Rattle.vpf_triplet.specs.declared.places.Place.{Place}
use Rattle.vpf_triplet.specs.declared.places.Code.TheVariants as codes
use Rattle.vpf_triplet.specs.Places.{Gives, theme_fault}
use Rattle.vpf_value.specs.Values.{Value}
use Rattle.vpf_theme.specs.declared.layout.Layout.{Layout}
use Rattle.vpf_theme.specs.Entries.{Entry, Theme, entry_of, extent_of, theme_in, value_of}
use Rattle.vpf_theme.specs.Inner.Faults as faults
use Rattle.vpf_theme.specs.Inner.Faults.{BeginsEntries, HasEntry, IsAbove, RowsFault, FirstThemeFault}
use Rattle.vpf_theme.specs.Layouts.{HasValues, entry_bytes, entry_start, layout_of}
use Rattle.vpf_theme.specs.Ordering.{value_cmp}
use Rattle.vpf_theme.specs.Reading.{cut_line, entries_line, entry_line, rises_at, entry_rows_line, sort_line, theme_of, unless_fault}
use Rattle.vpf_theme.specs.Spelling.{IsThemeHeader}
use Rattle.vpf_theme.proofs.FaultLemmas.{is_less}
use Rattle.vpf_theme.proofs.HeaderFaults.{header_fault, header_refused}
use Rattle.vpf_theme.proofs.HeaderLemmas.{layout_again, layout_read}
use Rattle.vpf_theme.proofs.RowsFaults.{either_line, first_at, first_some, rows_fault, rows_told, told}
use Rattle.vpf_theme.proofs.SpellingLemmas.{AreRead, CellsAreRead, CellsAreSpelled, cut_silent, entries_again, entries_rise, entries_stand, entry_there, extent_there, value-entry, value_there, whole_there}
use Rattle.vpf_theme.proofs.ValueLemmas.{FixedCells}

-- ---- the value before

-- the value is above that of the last entry of so many exactly where it is above the value that is read there
above_last : (l : Layout) (bytes : List ℕ) (a n : ℕ) (v : Value) → (0 < n → value_cmp (value_of l bytes (a + n - 1)) v ≡ Less) → IsAbove (map (entry_of l bytes) (range_with_len a n)) v
above_last l bytes a zero v h = tt
above_last l bytes a (suc zero) v h = let z : a + 1 - 1 ≡ a = omega arith in rw (value-entry l bytes a) (rw z at (h (omega arith)))
above_last l bytes a (suc (suc n)) v h = let z : a + suc (suc n) - 1 ≡ a + 1 + suc n - 1 = omega arith in above_last l bytes (a + 1) (suc n) v (λ k. rw z at (h (omega arith)))

last_below : (l : Layout) (bytes : List ℕ) (a n : ℕ) (v : Value) → IsAbove (map (entry_of l bytes) (range_with_len a n)) v → 0 < n → value_cmp (value_of l bytes (a + n - 1)) v ≡ Less
last_below l bytes a zero v h k = absurd (omega arith)
last_below l bytes a (suc zero) v h k = let z : a + 1 - 1 ≡ a = omega arith in rw z (rw (value-entry l bytes a) at h)
last_below l bytes a (suc (suc n)) v h k = let z : a + suc (suc n) - 1 ≡ a + 1 + suc n - 1 = omega arith in rw z (last_below l bytes (a + 1) (suc n) v h (omega arith))

-- ---- what is read before the place

less_yes : (l : Layout) (bytes : List ℕ) (i : ℕ) → value_cmp (value_of l bytes (i - 1)) (value_of l bytes i) ≡ Less → rises_at l bytes i ≡ true
less_yes l bytes i e = ap is_lt e

sorted_above : (l : Layout) (bytes : List ℕ) (i : ℕ) → sort_line l bytes i ≡ None → l.sorted ≡ true → 0 < i → value_cmp (value_of l bytes (i - 1)) (value_of l bytes i) ≡ Less
unfolding value_of
sorted_above l bytes i none s k = by (rises_at l bytes i) refl
  where
    by : (t : Bool) → rises_at l bytes i ≡ t → value_cmp (value_of l bytes (i - 1)) (value_of l bytes i) ≡ Less
    by true q = is_less (value_cmp (value_of l bytes (i - 1)) (value_of l bytes i)) q
    by false q = absurd (let z = rw (s, lt-ltb 0 i k, q) at none in cc)

begins : CellsAreSpelled → FixedCells → (l : Layout) (bytes : List ℕ) (i : ℕ) → IsBytes bytes → HasValues l → IsThemeHeader l bytes → i < l.entries → ((k : ℕ) → k < i → entry_line l bytes k ≡ None) → BeginsEntries l.order l bytes (map (entry_of l bytes) (range_with_len 0 i))
begins spelled fixed l bytes i fits v h high silent = record {
  order = refl;
  values = v;
  header = h;
  fewer = omega (arith, high, length-map-range_with_len (entry_of l bytes) 0 i);
  entries = entries_stand spelled fixed l bytes 0 i fits v (λ k low up. silent k (omega arith));
  rise = λ s. entries_rise l bytes 0 i (λ k low up. silent k (omega arith)) s;
}

-- the line that applies to entry i is a fault behind the entries before it
line_fault : CellsAreSpelled → FixedCells → (l : Layout) (bytes : List ℕ) (i : ℕ) (p : Place) → IsBytes bytes → HasValues l → (es : List Entry) → es ≡ map (entry_of l bytes) (range_with_len 0 i) → length es ≡ i → BeginsEntries l.order l bytes es → entry_line l bytes i ≡ Some p → FirstThemeFault l.order bytes p
unfolding entry_line
line_fault spelled fixed l bytes i p fits v es es_are len b e =
    let at : entry_start l (length es) ≡ entry_start l i = ap (entry_start l) len in
    either_line (cut_line l bytes i) (option_or (sort_line l bytes i) (entry_rows_line l.form l bytes i (extent_of l bytes i))) p (FirstThemeFault l.order bytes p) e
    (λ f.
    let t = told (nat_lt (length bytes) (entry_start l i + entry_bytes l)) (entry_start l i) codes.ThemeCut p f in
    subst (FirstThemeFault l.order bytes) (ap (λ (n : ℕ). theme_fault n codes.ThemeCut) at ∙ t.1) (faults.cut l es b (rw at (ltb-true _ _ t.0))))
    (λ whole f.
    let has : HasEntry l bytes (length es) (value_of l bytes i) (extent_of l bytes i) = subst (λ (n : ℕ). HasEntry l bytes n (value_of l bytes i) (extent_of l bytes i)) (sym len) (entry_there spelled fixed l bytes i fits v (whole_by l bytes i whole)) in
    either_line (sort_line l bytes i) (entry_rows_line l.form l bytes i (extent_of l bytes i)) p (FirstThemeFault l.order bytes p) f
    (λ g.
    let t = told (l.sorted && nat_lt 0 i && not (rises_at l bytes i)) (entry_start l i) codes.ThemeSort p g in
    let three_are = all_three l.sorted (nat_lt 0 i) (not (rises_at l bytes i)) t.0 in
    let low : rises_at l bytes i ≡ false = not_true (rises_at l bytes i) three_are.2 in
    subst (FirstThemeFault l.order bytes) (ap (λ (n : ℕ). theme_fault n codes.ThemeSort) at ∙ t.1)
    (faults.not_above l es (value_of l bytes i) (extent_of l bytes i) b has three_are.0 (λ above. not_less low (last_below l bytes 0 i (value_of l bytes i) (subst (λ (x : List Entry). IsAbove x (value_of l bytes i)) es_are above) (ltb-true 0 i three_are.1)))))
    (λ rising g.
    let above : l.sorted ≡ true → IsAbove es (value_of l bytes i) = λ s. subst (λ (x : List Entry). IsAbove x (value_of l bytes i)) (sym es_are) (above_last l bytes 0 i (value_of l bytes i) (λ k. zero_less (sorted_above l bytes i rising s k))) in
    let rows = rows_fault l.form l bytes i (extent_of l bytes i) p fits g in
    faults.in_rows l es (value_of l bytes i) (extent_of l bytes i) p b has above (subst (λ (n : ℕ). RowsFault l bytes n (extent_of l bytes i) l.form p) (sym at) rows)))
  where
    whole_by : (l : Layout) (bytes : List ℕ) (i : ℕ) → cut_line l bytes i ≡ None → entry_start l i + entry_bytes l ≤ length bytes
    whole_by l bytes i e = by (nat_lt (length bytes) (entry_start l i + entry_bytes l)) refl
      where
        by : (t : Bool) → nat_lt (length bytes) (entry_start l i + entry_bytes l) ≡ t → entry_start l i + entry_bytes l ≤ length bytes
        by true q = absurd (let z = rw q at e in cc)
        by false q = ltb-false _ _ q

    zero_less : value_cmp (value_of l bytes (i - 1)) (value_of l bytes i) ≡ Less → value_cmp (value_of l bytes (0 + i - 1)) (value_of l bytes i) ≡ Less
    zero_less e = let z : 0 + i - 1 ≡ i - 1 = omega arith in rw z e

    not_less : rises_at l bytes i ≡ false → value_cmp (value_of l bytes (0 + i - 1)) (value_of l bytes i) ≡ Less → ⊥
    not_less low e = let z : 0 + i - 1 ≡ i - 1 = omega arith in let y : true ≡ false = sym (less_yes l bytes i (rw z at e)) ∙ low in cc

unless_err : (m : Option Place) (x : Theme) (p : Place) → unless_fault m x ≡ Err p → m ≡ Some p
unless_err None x p e = absurd (no_ok x p e)
unless_err (Some q) x p e = let k : q ≡ p = err_is e in ap (λ (y : Place). Some y) k

entries_fault : CellsAreSpelled → FixedCells → (l : Layout) (bytes : List ℕ) (p : Place) → IsBytes bytes → HasValues l → IsThemeHeader l bytes → entries_line l bytes ≡ Some p → FirstThemeFault l.order bytes p
unfolding entries_line
entries_fault spelled fixed l bytes p fits v h e =
    let f = first_some (entry_line l bytes) 0 l.entries p e in
    let es = map (entry_of l bytes) (range_with_len 0 f.at) in
    line_fault spelled fixed l bytes f.at p fits v es refl (length-map-range_with_len (entry_of l bytes) 0 f.at)
    (begins spelled fixed l bytes f.at fits v h (omega (arith, f.high)) (λ k up. f.silent k (omega arith) up)) f.says

pub theme_faults : CellsAreSpelled → FixedCells → (o : Order) (bytes : List ℕ) (p : Place) → IsBytes bytes → theme_of o bytes ≡ Err p → FirstThemeFault o bytes p
unfolding theme_of
theme_faults spelled fixed o bytes p fits e = by (layout_of o bytes) refl e
  where
    by : (r : Result Layout Place) → layout_of o bytes ≡ r → (r >>= λ l. unless_fault (entries_line l bytes) (theme_in l bytes)) ≡ failed p → FirstThemeFault o bytes p
    by (Ok l) q f =
        let read = layout_read o bytes l fits q in
        subst (λ (x : Order). FirstThemeFault x bytes p) read.order (entries_fault spelled fixed l bytes p fits read.values read.header (unless_err (entries_line l bytes) (theme_in l bytes) p f))
    by (Err place) q f = faults.in_header p (header_fault o bytes p fits (q ∙ ap failed (err_is f)))

-- ---- a fault refuses

-- what is read before the place
record Front (l : Layout) (bytes : List ℕ) (es : List Entry) : Type 0 where
  layout : layout_of l.order bytes ≡ Ok l
  read : AreRead l bytes 0 es

front : CellsAreRead → FixedCells → (o : Order) (l : Layout) (bytes : List ℕ) (es : List Entry) → BeginsEntries o l bytes es → Front l bytes es
front read fixed o l bytes es b = record {
  layout = layout_again l bytes b.values b.header;
  read = entries_again read fixed l bytes 0 es b.values b.entries b.rise (λ s k. absurd (omega arith));
}

entries_told : (l : Layout) (bytes : List ℕ) (es : List Entry) (p : Place) → AreRead l bytes 0 es → length es < l.entries → entry_line l bytes (length es) ≡ Some p → entries_line l bytes ≡ Some p
unfolding entries_line
entries_told l bytes es p r few e = let z : 0 + length es ≡ length es = omega arith in first_at (entry_line l bytes) 0 (length es) l.entries p r.silent few (rw z e)

theme_stops : (o : Order) (l : Layout) (bytes : List ℕ) (p : Place) → l.order ≡ o → layout_of l.order bytes ≡ Ok l → entries_line l bytes ≡ Some p → theme_of o bytes ≡ Err p
unfolding theme_of
theme_stops o l bytes p same e f = rw (← same, e, f) refl

header_stops : (o : Order) (bytes : List ℕ) (p : Place) → layout_of o bytes ≡ Err p → theme_of o bytes ≡ Err p
unfolding theme_of
header_stops o bytes p e = rw e refl

cut_told : (l : Layout) (bytes : List ℕ) (i : ℕ) → length bytes < entry_start l i + entry_bytes l → entry_line l bytes i ≡ Some (theme_fault (entry_start l i) codes.ThemeCut)
unfolding entry_line
cut_told l bytes i h = rw (lt-ltb _ _ h) refl

sort_told : (l : Layout) (bytes : List ℕ) (i : ℕ) → entry_start l i + entry_bytes l ≤ length bytes → l.sorted ≡ true → 0 < i → rises_at l bytes i ≡ false → entry_line l bytes i ≡ Some (theme_fault (entry_start l i) codes.ThemeSort)
unfolding entry_line value_of
sort_told l bytes i whole s k low = rw (cut_silent l bytes i whole, s, lt-ltb 0 i k, low) refl

rest_told : (l : Layout) (bytes : List ℕ) (i : ℕ) (p : Place) → entry_start l i + entry_bytes l ≤ length bytes → sort_line l bytes i ≡ None → entry_rows_line l.form l bytes i (extent_of l bytes i) ≡ Some p → entry_line l bytes i ≡ Some p
unfolding entry_line
rest_told l bytes i p whole rise e = rw (cut_silent l bytes i whole, rise, e) refl

-- the entries before the next one are those that are read
are_before : (l : Layout) (bytes : List ℕ) (es : List Entry) (v : Value) → AreRead l bytes 0 es → IsAbove es v → 0 < length es → value_cmp (value_of l bytes (length es - 1)) v ≡ Less
are_before l bytes es v r above k =
    let z : 0 + length es - 1 ≡ length es - 1 = omega arith in
    rw z at (last_below l bytes 0 (length es) v (subst (λ (x : List Entry). IsAbove x v) (sym r.entries) above) k)

is_above : (l : Layout) (bytes : List ℕ) (es : List Entry) (v : Value) → AreRead l bytes 0 es → (0 < length es → value_cmp (value_of l bytes (length es - 1)) v ≡ Less) → IsAbove es v
is_above l bytes es v r h =
    let z : length es - 1 ≡ 0 + length es - 1 = omega arith in
    subst (λ (x : List Entry). IsAbove x v) r.entries (above_last l bytes 0 (length es) v (λ k. rw z at (h k)))

none_above : (l : Layout) (bytes : List ℕ) (es : List Entry) (v : Value) → AreRead l bytes 0 es → value_of l bytes (length es) ≡ v → (IsAbove es v → ⊥) → (0 < length es) × (rises_at l bytes (length es) ≡ false)
none_above l bytes es v r is not_above = elim (cases_lt 0 (length es)) [
  | inl k ↦ (k, by k (rises_at l bytes (length es)) refl)
  | inr k ↦ absurd (not_above (is_above l bytes es v r (λ m. absurd (omega arith))))
]
  where
    by : 0 < length es → (t : Bool) → rises_at l bytes (length es) ≡ t → rises_at l bytes (length es) ≡ false
    by k true q = absurd (not_above (is_above l bytes es v r (λ m. rw is at (is_less (value_cmp (value_of l bytes (length es - 1)) (value_of l bytes (length es))) q))))
    by k false q = q

sort_silent_by : (l : Layout) (bytes : List ℕ) (es : List Entry) (v : Value) → AreRead l bytes 0 es → value_of l bytes (length es) ≡ v → (l.sorted ≡ true → IsAbove es v) → sort_line l bytes (length es) ≡ None
sort_silent_by l bytes es v r is above = by (l.sorted && nat_lt 0 (length es) && not (rises_at l bytes (length es))) refl
  where
    by : (t : Bool) → (l.sorted && nat_lt 0 (length es) && not (rises_at l bytes (length es))) ≡ t → sort_line l bytes (length es) ≡ None
    by true q =
        let t = all_three l.sorted (nat_lt 0 (length es)) (not (rises_at l bytes (length es))) q in
        let less = are_before l bytes es v r (above t.0) (ltb-true 0 (length es) t.1) in
        let yes = less_yes l bytes (length es) (rw is less) in
        absurd (let z : true ≡ false = sym yes ∙ not_true (rises_at l bytes (length es)) t.2 in cc)
    by false q = rw q refl

pub theme_refused : CellsAreRead → FixedCells → (o : Order) (bytes : List ℕ) (p : Place) → FirstThemeFault o bytes p → theme_of o bytes ≡ Err p
theme_refused read fixed o bytes p (faults.in_header q f) = header_stops o bytes p (header_refused o bytes p f)
theme_refused read fixed o bytes p (faults.cut l es b h) =
    let f = front read fixed o l bytes es b in
    theme_stops o l bytes _ b.order f.layout (entries_told l bytes es _ f.read b.fewer (cut_told l bytes (length es) h))
theme_refused read fixed o bytes p (faults.not_above l es v e b has s low) =
    let f = front read fixed o l bytes es b in
    let value = value_there read l bytes (length es) v e has in
    let n = none_above l bytes es v f.read value low in
    let whole = whole_there read fixed l bytes (length es) v e b.values has in
    theme_stops o l bytes _ b.order f.layout (entries_told l bytes es _ f.read b.fewer (sort_told l bytes (length es) whole s n.0 n.1))
theme_refused read fixed o bytes p (faults.in_rows l es v e q b has above r) =
    let f = front read fixed o l bytes es b in
    let value = value_there read l bytes (length es) v e has in
    let extent = extent_there read fixed l bytes (length es) v e b.values has in
    let whole = whole_there read fixed l bytes (length es) v e b.values has in
    let rows : entry_rows_line l.form l bytes (length es) (extent_of l bytes (length es)) ≡ Some p = rw extent (rows_told l.form l bytes (length es) e p r) in
    theme_stops o l bytes p b.order f.layout (entries_told l bytes es p f.read b.fewer (rest_told l bytes (length es) p whole (sort_silent_by l bytes es v f.read value above) rows))

-- ---- what opening answers

abbrev whole : Theme → Theme
whole t = t

pub refused_is_faulty : (r : Result Theme Place) (o : Order) (bytes : List ℕ) → ((p : Place) → theme_of o bytes ≡ Err p → FirstThemeFault o bytes p) → Gives whole r (theme_of o bytes) → IfErr r (λ p. FirstThemeFault o bytes p)
refused_is_faulty (Ok t) o bytes faulty e = tt
refused_is_faulty (Err p) o bytes faulty e = faulty p e
