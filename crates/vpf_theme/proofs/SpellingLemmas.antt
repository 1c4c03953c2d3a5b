-- An index is spelled exactly where it is read.
use Rattle.std.proofs.Common.{[], ◌≡◌, ℕ, zero, suc, ◌+◌, ◌-◌, ◌<◌, ◌≤◌, Bool, true, false, not, ◌&&◌, List, ◌∷◌, ◌++◌, length, map, take, drop, Option, Some, None, Ok, Err, Less, refl, sym, ap, subst, ◌∙◌, arith, inl, inr, add-one}
use Rattle.std.specs.Prelude.{nat_lt}
use Rattle.std.specs.List.{range_with_len}
use Rattle.std.specs.Int.{w32}
use Rattle.std.specs.Ordering.{is_lt}
use Rattle.std.proofs.lemmas.Bool.{cases_lt, le-ltb, ltb-true}
use Rattle.std.proofs.lemmas.List.{length-drop, length-take-le}
use Rattle.std.proofs.lemmas.List.FromFn.{length-map-range_with_len}
use Rattle.vpf_base.proofs.ByteLists.{IsBytes-drop}
use Rattle.vpf_base.specs.Bytes.{IsBytes}
use Rattle.vpf_base.specs.declared.orders.Order.{Order}
use Rattle.vpf_triplet.specs.declared.kinds.Kind.{Kind}
use Rattle.vpf_triplet.specs.declared.kinds.Count.{Count}
use Rattle.vpf_triplet.specs.declared.kinds.Count.TheVariants.{Fixed}
use Rattle.vpf_triplet.specs.declared.places.Place.{Place}
use Rattle.vpf_triplet.specs.declared.places.Code.TheVariants as codes
use Rattle.vpf_base.specs.Numbers.{number}
use Rattle.vpf_value.specs.Values.{Value}
use Rattle.vpf_value.specs.Reading.{CellAnswer, cell_from}
use Rattle.vpf_value.specs.Spelling.{IsCell}
use Rattle.vpf_theme.specs.declared.layout.Layout.{Layout}
use Rattle.vpf_theme.specs.declared.entries.Extent.{Extent}
use Rattle.vpf_theme.specs.Layouts.{HasValues, entry_bytes, entry_start, layout_of, u32_at, value_bytes}
use Rattle.vpf_theme.specs.Ordering.{value_cmp}
use Rattle.vpf_theme.specs.Entries.{Entry, Theme, entry_of, extent_of, rows_by, theme_in, value_of, value_read}
use Rattle.vpf_findings.specs.Firsts.{first_over}
use Rattle.vpf_theme.specs.Reading.{cut_line, entries_line, entry_line, rises_at, sort_line, theme_of, unless_fault}
use Rattle.vpf_theme.specs.Inner.Faults.{HasEntry}
use Rattle.vpf_theme.specs.Spelling.{AreEntriesAt, IsBelow, IsEntryAt, IsThemeHeader, IsThematicIndex, ValuesRise, layout_from}
use Rattle.vpf_theme.proofs.DataLemmas.{entry_rows_by}
use Rattle.vpf_theme.proofs.FaultLemmas.{entry_rows, rises_by, whole_by}
use Rattle.vpf_theme.specs.Inner.FaultLaws.{entry_none}
use Rattle.vpf_theme.proofs.HeaderLemmas.{layout_again, layout_read, then_ok}
use Rattle.vpf_theme.proofs.PieceLemmas.{front_stands, u32_stands, u32_there}
use Rattle.vpf_theme.specs.Inner.PieceLaws.{length-u32, piece_inside}
use Rattle.vpf_theme.proofs.StoredLemmas.{rows_again, rows_silent, rows_stand}
use Rattle.vpf_theme.proofs.ValueLemmas.{FixedCells}
use Rattle.vpf_theme.specs.Inner.ValueLaws.{indexed_width}

-- ---- the laws of cells that are used

-- what is spelled is read, whatever follows
abbrev pub CellsAreRead : Type 0
CellsAreRead = (order : Order) (kind : Kind) (count : Count) (v : Value) (text rest : List ℕ) → IsCell order kind count v text → cell_from order kind count (text ++ rest) ≡ Ok (v, length text)

-- what is read is spelled
abbrev pub CellsAreSpelled : Type 0
CellsAreSpelled = (order : Order) (kind : Kind) (count : Count) (bytes : List ℕ) (v : Value) (n : ℕ) → IsBytes bytes → cell_from order kind count bytes ≡ Ok (v, n) → (n ≤ length bytes) × IsCell order kind count v (take n bytes)

-- what is read of the value of entry i
abbrev value_answer : Layout → List ℕ → ℕ → CellAnswer
value_answer l bytes i = cell_from l.order l.kind (Fixed l.count) (drop (entry_start l i) bytes)

-- ---- what is spelled is read

answer_there : CellsAreRead → (l : Layout) (bytes : List ℕ) (i : ℕ) (v : Value) (e : Extent) (d : HasEntry l bytes i v e) → value_answer l bytes i ≡ Ok (v, length d.spelling)
answer_there read l bytes i v e d = ap (cell_from l.order l.kind (Fixed l.count)) d.value.1 ∙ read l.order l.kind (Fixed l.count) v d.spelling d.value.0 d.spelled

never : (a : CellAnswer) (v : Value) (n : ℕ) → a ≡ Ok (v, n) → a ≡ Err codes.CellCut → ⊥
never a v n h k = cc

taken : CellAnswer → ℕ
taken (Ok r) = r.1
taken (Err code) = 0

same_length : (a : CellAnswer) (v u : Value) (n m : ℕ) → a ≡ Ok (v, n) → a ≡ Ok (u, m) → n ≡ m
unfolding taken
same_length a v u n m h k = sym (ap taken h) ∙ ap taken k

pub length-there : CellsAreRead → FixedCells → (l : Layout) (bytes : List ℕ) (i : ℕ) (v : Value) (e : Extent) → HasValues l → (d : HasEntry l bytes i v e) → length d.spelling ≡ value_bytes l
length-there read fixed l bytes i v e h d =
    let part = drop (entry_start l i) bytes in
    let width = fixed l.order l.kind (Fixed l.count) part (value_bytes l) (indexed_width l.kind l.count h.0) in
    let answer = answer_there read l bytes i v e d in
    elim (cases_lt (length part) (value_bytes l)) [
      | inl lt ↦ absurd (never (value_answer l bytes i) v (length d.spelling) answer (width.cut lt))
      | inr ge ↦ let w = width.whole ge in same_length (value_answer l bytes i) v w.0 (length d.spelling) (value_bytes l) answer w.1
    ]

pub value_there : CellsAreRead → (l : Layout) (bytes : List ℕ) (i : ℕ) (v : Value) (e : Extent) → HasEntry l bytes i v e → value_of l bytes i ≡ v
unfolding value_of
value_there read l bytes i v e d = ap value_read (answer_there read l bytes i v e d)

abbrev extent_with : ℕ → ℕ → Extent
extent_with offset count = record { offset = offset; count = count }

extent_by : (l : Layout) (bytes : List ℕ) (i : ℕ) (v : Value) (e : Extent) (d : HasEntry l bytes i v e) → length d.spelling ≡ value_bytes l → extent_of l bytes i ≡ e
unfolding extent_of
extent_by l bytes i v e d len =
    let offset = rw len at (u32_there l.order e.offset bytes (entry_start l i + length d.spelling) d.offset) in
    let count = rw len at (u32_there l.order e.count bytes (entry_start l i + length d.spelling + 4) d.count) in
    ap (λ (x : ℕ). extent_with x (u32_at l.order bytes (entry_start l i + value_bytes l + 4))) offset ∙ ap (λ (x : ℕ). extent_with e.offset x) count

pub extent_there : CellsAreRead → FixedCells → (l : Layout) (bytes : List ℕ) (i : ℕ) (v : Value) (e : Extent) → HasValues l → HasEntry l bytes i v e → extent_of l bytes i ≡ e
extent_there read fixed l bytes i v e h d = extent_by l bytes i v e d (length-there read fixed l bytes i v e h d)

pub whole_there : CellsAreRead → FixedCells → (l : Layout) (bytes : List ℕ) (i : ℕ) (v : Value) (e : Extent) → HasValues l → HasEntry l bytes i v e → entry_start l i + entry_bytes l ≤ length bytes
whole_there read fixed l bytes i v e h d =
    let len = length-there read fixed l bytes i v e h d in
    let four = length-u32 l.order e.count in
    let inside = piece_inside bytes (number l.order w32 e.count) (entry_start l i + length d.spelling + 4) (omega (arith, four)) d.count.1 in
    omega (arith, inside, four, len)

-- what stands of an entry
has_entry : (l : Layout) (bytes : List ℕ) (i : ℕ) (e : Entry) (d : IsEntryAt l bytes i e) → HasEntry l bytes i e.value d.extent
has_entry l bytes i e d = record { spelling = d.spelling; spelled = d.spelled; value = d.value; offset = d.offset; count = d.count }

abbrev entry_with : Value → List ℕ → Entry
entry_with value rows = record { value = value; rows = rows }

entry_again : (l : Layout) (bytes : List ℕ) (i : ℕ) (e : Entry) (d : IsEntryAt l bytes i e) → value_of l bytes i ≡ e.value → extent_of l bytes i ≡ d.extent → entry_of l bytes i ≡ e
unfolding entry_of
entry_again l bytes i e d value extent =
    ap (λ (x : Value). entry_with x (rows_by l.form l bytes (extent_of l bytes i))) value
    ∙ ap (λ (x : Extent). entry_with e.value (rows_by l.form l bytes x)) extent
    ∙ ap (λ (x : List ℕ). entry_with e.value x) (rows_again l.form l bytes d.extent e.rows d.inside d.rows)

pub cut_silent : (l : Layout) (bytes : List ℕ) (i : ℕ) → entry_start l i + entry_bytes l ≤ length bytes → cut_line l bytes i ≡ None
cut_silent l bytes i h = rw (le-ltb (length bytes) (entry_start l i + entry_bytes l) h) refl

sort_case : (s z r : Bool) → (s ≡ true → z ≡ true → r ≡ true) → (s && z && not r) ≡ false
sort_case false z r h = refl
sort_case true false r h = refl
sort_case true true true h = refl
sort_case true true false h = absurd (cc (h refl refl))

sort_silent : (l : Layout) (bytes : List ℕ) (i : ℕ) → (l.sorted ≡ true → 0 < i → value_cmp (value_of l bytes (i - 1)) (value_of l bytes i) ≡ Less) → sort_line l bytes i ≡ None
sort_silent l bytes i f = rw (sort_case l.sorted (nat_lt 0 i) (rises_at l bytes i) (λ s z. ap is_lt (f s (ltb-true 0 i z)))) refl

entry_silent : (l : Layout) (bytes : List ℕ) (i : ℕ) (e : Entry) (d : IsEntryAt l bytes i e) → entry_start l i + entry_bytes l ≤ length bytes → (l.sorted ≡ true → 0 < i → value_cmp (value_of l bytes (i - 1)) (value_of l bytes i) ≡ Less) → extent_of l bytes i ≡ d.extent → entry_line l bytes i ≡ None
unfolding entry_line
entry_silent l bytes i e d whole rise extent = rw (cut_silent l bytes i whole, sort_silent l bytes i rise, extent) (rows_silent l.form l bytes i d.extent e.rows d.inside d.rows)

-- the entries from entry i on are read, and no line says anything of them
pub record AreRead (l : Layout) (bytes : List ℕ) (i : ℕ) (es : List Entry) : Type 0 where
  pub entries : map (entry_of l bytes) (range_with_len i (length es)) ≡ es
  pub silent : first_over (entry_line l bytes) i (length es) ≡ None

pub entries_again : CellsAreRead → FixedCells → (l : Layout) (bytes : List ℕ) (i : ℕ) (es : List Entry) → HasValues l → AreEntriesAt l bytes i es → (l.sorted ≡ true → ValuesRise es) → (l.sorted ≡ true → 0 < i → IsBelow (value_of l bytes (i - 1)) es) → AreRead l bytes i es
entries_again read fixed l bytes i [] v at rise below = record { entries = refl; silent = refl }
entries_again read fixed l bytes i (e ∷ es) v at rise below =
    let d = at.0 in
    let has = has_entry l bytes i e d in
    let value = value_there read l bytes i e.value d.extent has in
    let extent = extent_there read fixed l bytes i e.value d.extent v has in
    let entry = entry_again l bytes i e d value extent in
    let silent = entry_silent l bytes i e d (whole_there read fixed l bytes i e.value d.extent v has) (λ s k. rw value (below s k)) extent in
    let z : i + 1 - 1 ≡ i = omega arith in
    let more = entries_again read fixed l bytes (i + 1) es v at.1 (λ s. (rise s).1) (λ s k. rw (z, value) ((rise s).0)) in
    let after : first_over (entry_line l bytes) (suc i) (length es) ≡ None = rw (← add-one) more.silent in
    record { entries = rw (entry, more.entries) refl; silent = rw (silent, after) refl }

abbrev theme_with : Theme → List Entry → Theme
theme_with t es = record t { entries = es }

pub theme_again : CellsAreRead → FixedCells → (o : Order) (t : Theme) (bytes : List ℕ) → IsThematicIndex o t bytes → theme_of o bytes ≡ Ok t
unfolding theme_of entries_line
theme_again read fixed o t bytes is =
    let l = layout_from o is.row_size t in
    let r = entries_again read fixed l bytes 0 t.entries is.values is.entries is.rise (λ s k. absurd (omega arith)) in
    rw (layout_again l bytes is.values is.header, r.silent) (ap (λ (es : List Entry). Ok (theme_with t es)) r.entries)

-- ---- what is read is spelled

value_stands : CellsAreSpelled → FixedCells → (l : Layout) (bytes : List ℕ) (i : ℕ) → IsBytes bytes → HasValues l → entry_start l i + entry_bytes l ≤ length bytes → IsCell l.order l.kind (Fixed l.count) (value_of l bytes i) (take (value_bytes l) (drop (entry_start l i) bytes))
unfolding value_of
value_stands spelled fixed l bytes i fits v whole =
    let part = drop (entry_start l i) bytes in
    let width = fixed l.order l.kind (Fixed l.count) part (value_bytes l) (indexed_width l.kind l.count v.0) in
    let w = width.whole (omega (arith, length-drop (entry_start l i) bytes)) in
    let s = spelled l.order l.kind (Fixed l.count) part w.0 (value_bytes l) (IsBytes-drop (entry_start l i) bytes fits) w.1 in
    rw w.1 s.1

-- the value and the extent of an entry that is whole
pub entry_there : CellsAreSpelled → FixedCells → (l : Layout) (bytes : List ℕ) (i : ℕ) → IsBytes bytes → HasValues l → entry_start l i + entry_bytes l ≤ length bytes → HasEntry l bytes i (value_of l bytes i) (extent_of l bytes i)
unfolding extent_of
entry_there spelled fixed l bytes i fits v whole =
    let spelling = take (value_bytes l) (drop (entry_start l i) bytes) in
    let len : length spelling ≡ value_bytes l = length-take-le (value_bytes l) (drop (entry_start l i) bytes) (omega (arith, length-drop (entry_start l i) bytes)) in
    let offset = u32_stands l.order bytes (entry_start l i + value_bytes l) (extent_of l bytes i).offset fits (omega arith) refl in
    let count = u32_stands l.order bytes (entry_start l i + value_bytes l + 4) (extent_of l bytes i).count fits (omega arith) refl in
    record {
      spelling = spelling;
      spelled = value_stands spelled fixed l bytes i fits v whole;
      value = (drop (entry_start l i + value_bytes l) bytes, front_stands bytes spelling (entry_start l i) (value_bytes l) refl);
      offset = rw len offset;
      count = rw len count;
    }

entry_stands : CellsAreSpelled → FixedCells → (l : Layout) (bytes : List ℕ) (i : ℕ) → IsBytes bytes → HasValues l → entry_line l bytes i ≡ None → IsEntryAt l bytes i (entry_of l bytes i)
unfolding entry_of
entry_stands spelled fixed l bytes i fits v none =
    let e = entry_there spelled fixed l bytes i fits v (whole_by l bytes i none) in
    record {
      spelling = e.spelling;
      extent = extent_of l bytes i;
      spelled = e.spelled;
      value = e.value;
      offset = e.offset;
      count = e.count;
      inside = entry_rows_by l bytes i none;
      rows = rows_stand l.form l bytes i (extent_of l bytes i) fits (entry_rows l bytes i none);
    }

-- no line says anything of so many entries from entry i on
abbrev pub AreSilent : Layout → List ℕ → ℕ → ℕ → Type 0
AreSilent l bytes i n = (k : ℕ) → i ≤ k → k < i + n → entry_line l bytes k ≡ None

pub entries_stand : CellsAreSpelled → FixedCells → (l : Layout) (bytes : List ℕ) (i n : ℕ) → IsBytes bytes → HasValues l → AreSilent l bytes i n → AreEntriesAt l bytes i (map (entry_of l bytes) (range_with_len i n))
entries_stand spelled fixed l bytes i zero fits v none = tt
entries_stand spelled fixed l bytes i (suc n) fits v none = (entry_stands spelled fixed l bytes i fits v (none i (omega arith) (omega arith)), entries_stand spelled fixed l bytes (i + 1) n fits v (λ k low high. none k (omega arith) (omega arith)))

pub value-entry : (l : Layout) (bytes : List ℕ) (i : ℕ) → (entry_of l bytes i).value ≡ value_of l bytes i
unfolding entry_of
value-entry l bytes i = refl

below_next : (l : Layout) (bytes : List ℕ) (i n : ℕ) → AreSilent l bytes i (suc n) → l.sorted ≡ true → IsBelow (entry_of l bytes i).value (map (entry_of l bytes) (range_with_len (i + 1) n))
below_next l bytes i zero none s = tt
below_next l bytes i (suc n) none s = rw (value-entry l bytes i, value-entry l bytes (i + 1)) (rises_by l bytes i (none (i + 1) (omega arith) (omega arith)) s)

pub entries_rise : (l : Layout) (bytes : List ℕ) (i n : ℕ) → AreSilent l bytes i n → l.sorted ≡ true → ValuesRise (map (entry_of l bytes) (range_with_len i n))
entries_rise l bytes i zero none s = tt
entries_rise l bytes i (suc n) none s = (below_next l bytes i n none s, entries_rise l bytes (i + 1) n (λ k low high. none k (omega arith) (omega arith)) s)

theme_stands : CellsAreSpelled → FixedCells → (l : Layout) (bytes : List ℕ) → IsBytes bytes → HasValues l → IsThemeHeader l bytes → entries_line l bytes ≡ None → IsThematicIndex l.order (theme_in l bytes) bytes
theme_stands spelled fixed l bytes fits v h none =
    let same : layout_from l.order l.row_size (theme_in l bytes) ≡ l = ap (λ (n : ℕ). with_entries l n) (length-map-range_with_len (entry_of l bytes) 0 l.entries) in
    record {
      row_size = l.row_size;
      values = subst HasValues (sym same) v;
      header = subst (λ (x : Layout). IsThemeHeader x bytes) (sym same) h;
      entries = subst (λ (x : Layout). AreEntriesAt x bytes 0 (theme_in l bytes).entries) (sym same) (entries_stand spelled fixed l bytes 0 l.entries fits v (λ k low high. entry_none l bytes k none (omega (arith, high))));
      rise = λ s. entries_rise l bytes 0 l.entries (λ k low high. entry_none l bytes k none (omega (arith, high))) s;
    }
  where
    with_entries : Layout → ℕ → Layout
    with_entries l n = record l { entries = n }

unless_ok : (m : Option Place) (x y : Theme) → unless_fault m x ≡ Ok y → (m ≡ None) × (x ≡ y)
unless_ok None x y e = (refl, cc e)
unless_ok (Some p) x y e = absurd (cc e)

pub theme_read : CellsAreSpelled → FixedCells → (o : Order) (t : Theme) (bytes : List ℕ) → IsBytes bytes → theme_of o bytes ≡ Ok t → IsThematicIndex o t bytes
unfolding theme_of
theme_read spelled fixed o t bytes fits e =
    let layout = then_ok (layout_of o bytes) (λ l. unless_fault (entries_line l bytes) (theme_in l bytes)) t e in
    let l = layout.0 in
    let read = layout_read o bytes l fits layout.1 in
    let told = unless_ok (entries_line l bytes) (theme_in l bytes) t layout.2 in
    let is = theme_stands spelled fixed l bytes fits read.values read.header told.0 in
    subst (λ (x : Order). IsThematicIndex x t bytes) read.order (subst (λ (x : Theme). IsThematicIndex l.order x bytes) told.1 is)
