-- The rows of an entry are refused exactly by the first line that applies to them.
use Rattle.std.proofs.Common.{◌≡◌, ℕ, zero, suc, ◌+◌, ◌-◌, ◌*◌, ◌/◌, ◌<◌, ◌≤◌, Bool, true, false, not, cond, List, length, map, drop, Option, Some, None, refl, sym, ap, subst, ◌∙◌, arith, inl, inr}
use Rattle.std.specs.Prelude.{◌≢◌, ◌==◌}
use Rattle.std.specs.List.{range_with_len}
use Rattle.std.specs.Option.{option_or}
use Rattle.std.proofs.lemmas.Bool.{cases_eq, eq-eqb, eqb-false, eqb-true, ne_eqb}
use Rattle.std.proofs.lemmas.List.FromFn.{length-map-range_with_len}
use Rattle.vpf_base.specs.Bytes.{IsBytes}
use Rattle.vpf_base.proofs.Booleans.{both, not_true}
use Rattle.vpf_triplet.specs.declared.places.Place.{Place}
use Rattle.vpf_triplet.specs.declared.places.Code.{Code}
use Rattle.vpf_triplet.specs.declared.places.Code.TheVariants as codes
use Rattle.vpf_base.specs.Numbers.{number}
use Rattle.vpf_triplet.specs.Places.{theme_fault}
use Rattle.vpf_findings.specs.Inner.FirstLaws.{over_silent}
use Rattle.vpf_theme.specs.declared.layout.Form.{Form}
use Rattle.vpf_theme.specs.declared.layout.Form.TheVariants as forms
use Rattle.vpf_theme.specs.declared.layout.Layout.{Layout}
use Rattle.vpf_theme.specs.declared.entries.Extent.{Extent}
use Rattle.vpf_theme.specs.Entries.{is_marked, number_at, number_start}
use Rattle.vpf_theme.specs.Inner.Faults as faults
use Rattle.vpf_theme.specs.Inner.Faults.{IsRowNumber, RowsFault}
use Rattle.vpf_theme.specs.Layouts.{entry_start, row_bytes}
use Rattle.vpf_findings.specs.Firsts.{first_over}
use Rattle.vpf_theme.specs.Reading.{bitmap_line, fault_where, is_bitmap, is_behind, is_row, list_line, number_line, numbers_line, pad_line, entry_rows_line}
use Rattle.vpf_theme.specs.Spelling.{HoldsRow, LiesBehind, StandsAt, row_width}
use Rattle.vpf_theme.proofs.DataLemmas.{all_range, row_bounds}
use Rattle.vpf_theme.proofs.FaultLemmas.{no_fault}
use Rattle.vpf_theme.proofs.PieceLemmas.{row_again, row_stands}
use Rattle.vpf_theme.proofs.StoredLemmas.{are_held, data_behind, data_yes, number_held, numbers_silent, numbers_stand, row_yes}

-- ---- the first of a list of lines

-- a line that says something, where no line before it does
pub record First {F : Type 0} (line : ℕ → Option F) (a n : ℕ) (f : F) : Type 0 where
  pub at : ℕ
  pub low : a ≤ at
  pub high : at < a + n
  pub says : line at ≡ Some f
  pub silent : (k : ℕ) → a ≤ k → k < at → line k ≡ None

some_is : {F : Type 0} {x y : F} → Option.Some x ≡ Some y → x ≡ y
some_is e = cc

pub first_some : {F : Type 0} (line : ℕ → Option F) (a n : ℕ) (f : F) → first_over line a n ≡ Some f → First line a n f
first_some line a zero f e = absurd cc
first_some {F = F} line a (suc n) f e = by (λ g. first_some line (suc a) n f g) (line a) refl e
  where
    by : (first_over line (suc a) n ≡ Some f → First line (suc a) n f) → (r : Option F) → line a ≡ r → option_or r (first_over line (suc a) n) ≡ Some f → First line a (suc n) f
    by others (Some g) q h = record { at = a; low = omega arith; high = omega arith; says = q ∙ h; silent = λ k low high. absurd (omega arith) }
    by others None q h =
        let o = others h in
        record {
          at = o.at;
          low = omega (arith, o.low);
          high = omega (arith, o.high);
          says = o.says;
          silent = λ k low high. elim (cases_eq k a) [
            | inl e ↦ rw e q
            | inr ne ↦ o.silent k (omega (arith, low, ne)) high
          ];
        }

pub first_at : {F : Type 0} (line : ℕ → Option F) (a m n : ℕ) (f : F) → first_over line a m ≡ None → m < n → line (a + m) ≡ Some f → first_over line a n ≡ Some f
first_at line a m zero f e h s = absurd (omega arith)
first_at line a zero (suc n) f e h s = let z : a + 0 ≡ a = omega arith in let k = rw z at s in rw k refl
first_at {F = F} line a (suc m) (suc n) f e h s = by (λ g. first_at line (suc a) m n f g (omega arith) (rw z at s)) (line a) refl e
  where
    z : a + suc m ≡ suc a + m
    z = omega arith

    by : (first_over line (suc a) m ≡ None → first_over line (suc a) n ≡ Some f) → (r : Option F) → line a ≡ r → option_or r (first_over line (suc a) m) ≡ None → first_over line a (suc n) ≡ Some f
    by others None q g = rw q (others g)
    by others (Some x) q g = absurd cc

-- ---- a line that says something

pub told : (b : Bool) (at : ℕ) (code : Code) (p : Place) → fault_where b at code ≡ Some p → (b ≡ true) × (theme_fault at code ≡ p)
told true at code p e = (refl, some_is e)
told false at code p e = absurd cc

pub either_line : (a b : Option Place) (p : Place) (C : Type 0) → option_or a b ≡ Some p → (a ≡ Some p → C) → (a ≡ None → b ≡ Some p → C) → C
either_line (Some q) b p C e first second = first e
either_line None b p C e first second = second refl e

false_of : (b : Bool) → (b ≡ true → ⊥) → b ≡ false
false_of true h = absurd (h refl)
false_of false h = refl

no_true : (b : Bool) → b ≡ false → b ≡ true → ⊥
no_true b e f = let z : true ≡ false = sym f ∙ e in cc

-- ---- lists

row_no : (l : Layout) (n : ℕ) → is_row l n ≡ false → IsRowNumber l n → ⊥
row_no l n e r = no_true (is_row l n) e (row_yes l n r.0 r.1)

data_no : (l : Layout) (bytes : List ℕ) (offset len : ℕ) → is_behind l bytes offset len ≡ false → LiesBehind l bytes offset len → ⊥
data_no l bytes offset len e h = no_true (is_behind l bytes offset len) e (data_yes l bytes offset len h)

line_silent : (l : Layout) (bytes : List ℕ) (offset k : ℕ) → number_line l bytes offset k ≡ None → is_row l (number_at l bytes offset k) ≡ true
line_silent l bytes offset k e = by (is_row l (number_at l bytes offset k)) refl
  where
    by : (t : Bool) → is_row l (number_at l bytes offset k) ≡ t → is_row l (number_at l bytes offset k) ≡ true
    by true q = q
    by false q = absurd (let z = rw q at e in cc)

room_by : (size offset count k len : ℕ) → offset + count * size ≤ len → k < count → offset + k * size + size ≤ len
room_by size offset zero k len h f = absurd (omega arith)
room_by size offset (suc count) zero len h f = omega (arith, h)
room_by size offset (suc count) (suc k) len h f = let r = room_by size (offset + size) count k len (omega (arith, h)) (omega arith) in omega (arith, r)

number_stands : (l : Layout) (bytes : List ℕ) (offset k : ℕ) → IsBytes bytes → number_start l offset k + row_bytes l.row_size ≤ length bytes → StandsAt bytes (number_start l offset k) (number l.order (row_width l.row_size) (number_at l bytes offset k))
unfolding number_at
number_stands l bytes offset k fits room = (drop (number_start l offset k + row_bytes l.row_size) bytes, row_stands l.order l.row_size bytes (number_start l offset k) fits room)

numbers_fault : (l : Layout) (bytes : List ℕ) (at : ℕ) (e : Extent) (p : Place) → IsBytes bytes → LiesBehind l bytes e.offset (e.count * row_bytes l.row_size) → first_over (number_line l bytes e.offset) 0 e.count ≡ Some p → RowsFault l bytes at e forms.List p
numbers_fault l bytes at e p fits behind f =
    let i = first_some (number_line l bytes e.offset) 0 e.count p f in
    let k = i.at in
    let n = number_at l bytes e.offset k in
    let t = told (not (is_row l n)) (number_start l e.offset k) codes.ThemeRow p i.says in
    let rows = map (number_at l bytes e.offset) (range_with_len 0 k) in
    let len : length rows ≡ k = length-map-range_with_len (number_at l bytes e.offset) 0 k in
    let few : k < e.count = omega (arith, i.high) in
    let room : number_start l e.offset k + row_bytes l.row_size ≤ length bytes = room_by (row_bytes l.row_size) e.offset e.count k (length bytes) behind.1 few in
    let first : number_start l e.offset 0 ≡ e.offset = omega arith in
    let stand = numbers_stand l bytes e.offset 0 k fits (omega (arith, room)) in
    let here : StandsAt bytes (number_start l e.offset k) (number l.order (row_width l.row_size) n) = number_stands l bytes e.offset k fits room in
    let is : theme_fault (number_start l e.offset (length rows)) codes.ThemeRow ≡ p = ap (λ (j : ℕ). theme_fault (number_start l e.offset j) codes.ThemeRow) len ∙ t.1 in
    subst (RowsFault l bytes at e forms.List) is
    (faults.no_number rows n (omega (arith, len, few)) behind
    (all_range (HoldsRow l.row_size) (number_at l bytes e.offset) k (λ j m. number_held l bytes e.offset j fits))
    (all_range (λ row. (1 ≤ row) × (row ≤ l.rows)) (number_at l bytes e.offset) k (λ j m. row_bounds l (number_at l bytes e.offset j) (line_silent l bytes e.offset j (i.silent j (omega arith) m))))
    (drop (e.offset + k * row_bytes l.row_size) bytes, rw first at stand)
    (number_held l bytes e.offset k fits)
    (subst (λ (j : ℕ). StandsAt bytes (number_start l e.offset j) (number l.order (row_width l.row_size) n)) (sym len) here)
    (row_no l n (not_true (is_row l n) t.0)))

many_fault : (l : Layout) (bytes : List ℕ) (i : ℕ) (e : Extent) (p : Place) → IsBytes bytes → e.count ≢ 0 → numbers_line l bytes i e ≡ Some p → RowsFault l bytes (entry_start l i) e forms.List p
many_fault l bytes i e p fits some f = by (is_behind l bytes e.offset (e.count * row_bytes l.row_size)) refl f
  where
    by : (t : Bool) → is_behind l bytes e.offset (e.count * row_bytes l.row_size) ≡ t
        → option_or (fault_where (not t) (entry_start l i) codes.ThemeSpan) (first_over (number_line l bytes e.offset) 0 e.count) ≡ Some p → RowsFault l bytes (entry_start l i) e forms.List p
    by true q g = numbers_fault l bytes (entry_start l i) e p fits (data_behind l bytes e.offset (e.count * row_bytes l.row_size) q) g
    by false q g = subst (RowsFault l bytes (entry_start l i) e forms.List) (some_is g) (faults.no_list some (data_no l bytes e.offset (e.count * row_bytes l.row_size) q))

list_fault : (l : Layout) (bytes : List ℕ) (i : ℕ) (e : Extent) (p : Place) → IsBytes bytes → list_line l bytes i e ≡ Some p → RowsFault l bytes (entry_start l i) e forms.List p
list_fault l bytes i e p fits f = by (e.count == 0) refl f
  where
    by : (t : Bool) → (e.count == 0) ≡ t → cond t (fault_where (not (is_row l e.offset)) (entry_start l i) codes.ThemeRow) (numbers_line l bytes i e) ≡ Some p → RowsFault l bytes (entry_start l i) e forms.List p
    by true q g =
        let t = told (not (is_row l e.offset)) (entry_start l i) codes.ThemeRow p g in
        subst (RowsFault l bytes (entry_start l i) e forms.List) t.1 (faults.no_row (eqb-true _ _ q) (row_no l e.offset (not_true (is_row l e.offset) t.0)))
    by false q g = many_fault l bytes i e p fits (eqb-false _ _ q) g

-- ---- bitmaps

bitmap_is : (l : Layout) (bytes : List ℕ) (e : Extent) → is_bitmap l bytes e ≡ true → (e.count ≡ (l.rows + 7) / 8) × LiesBehind l bytes e.offset e.count
bitmap_is l bytes e h =
    let t = both (e.count == (l.rows + 7) / 8) (is_behind l bytes e.offset e.count) h in
    (eqb-true _ _ t.0, data_behind l bytes e.offset e.count t.1)

bitmap_yes : (l : Layout) (bytes : List ℕ) (e : Extent) → e.count ≡ (l.rows + 7) / 8 → LiesBehind l bytes e.offset e.count → is_bitmap l bytes e ≡ true
bitmap_yes l bytes e n h = rw (eq-eqb e.count ((l.rows + 7) / 8) n, data_yes l bytes e.offset e.count h) refl

clear_bit : (bytes : List ℕ) (offset k : ℕ) → pad_line bytes offset k ≡ None → is_marked bytes offset k ≡ false
clear_bit bytes offset k e = no_fault (is_marked bytes offset k) (offset + k / 8) codes.ThemePad e

bitmap_fault : (l : Layout) (bytes : List ℕ) (i : ℕ) (e : Extent) (p : Place) → bitmap_line l bytes i e ≡ Some p → RowsFault l bytes (entry_start l i) e forms.Bitmap p
bitmap_fault l bytes i e p f = by (is_bitmap l bytes e) refl f
  where
    by : (t : Bool) → is_bitmap l bytes e ≡ t → option_or (fault_where (not t) (entry_start l i) codes.ThemeSpan) (first_over (pad_line bytes e.offset) l.rows (8 * e.count - l.rows)) ≡ Some p → RowsFault l bytes (entry_start l i) e forms.Bitmap p
    by true q g =
        let b = bitmap_is l bytes e q in
        let s = first_some (pad_line bytes e.offset) l.rows (8 * e.count - l.rows) p g in
        let t = told (is_marked bytes e.offset s.at) (e.offset + s.at / 8) codes.ThemePad p s.says in
        subst (RowsFault l bytes (entry_start l i) e forms.Bitmap) t.1 (faults.padded s.at b.0 b.1 s.low (omega (arith, s.low, s.high)) (λ j low high. clear_bit bytes e.offset j (s.silent j low high)) t.0)
    by false q g = subst (RowsFault l bytes (entry_start l i) e forms.Bitmap) (some_is g) (faults.no_bitmap (λ n h. no_true (is_bitmap l bytes e) q (bitmap_yes l bytes e n h)))

pub rows_fault : (form : Form) (l : Layout) (bytes : List ℕ) (i : ℕ) (e : Extent) (p : Place) → IsBytes bytes → entry_rows_line form l bytes i e ≡ Some p → RowsFault l bytes (entry_start l i) e form p
rows_fault forms.List l bytes i e p fits f = list_fault l bytes i e p fits f
rows_fault forms.Bitmap l bytes i e p fits f = bitmap_fault l bytes i e p f

-- ---- a fault says something

not_row : (l : Layout) (n : ℕ) → (IsRowNumber l n → ⊥) → is_row l n ≡ false
not_row l n h = false_of (is_row l n) (λ e. h (row_bounds l n e))

not_data : (l : Layout) (bytes : List ℕ) (offset len : ℕ) → (LiesBehind l bytes offset len → ⊥) → is_behind l bytes offset len ≡ false
not_data l bytes offset len h = false_of (is_behind l bytes offset len) (λ e. h (data_behind l bytes offset len e))

number_is : (l : Layout) (bytes : List ℕ) (offset k n : ℕ) → HoldsRow l.row_size n → StandsAt bytes (number_start l offset k) (number l.order (row_width l.row_size) n) → number_at l bytes offset k ≡ n
unfolding number_at
number_is l bytes offset k n h s = rw s.1 (row_again l.order l.row_size n s.0 h)

number_told : (l : Layout) (bytes : List ℕ) (offset k n : ℕ) → number_at l bytes offset k ≡ n → is_row l n ≡ false → number_line l bytes offset k ≡ Some (theme_fault (number_start l offset k) codes.ThemeRow)
number_told l bytes offset k n is bad = rw (is, bad) refl

pub rows_told : (form : Form) (l : Layout) (bytes : List ℕ) (i : ℕ) (e : Extent) (p : Place) → RowsFault l bytes (entry_start l i) e form p → entry_rows_line form l bytes i e ≡ Some p
rows_told form l bytes i e p (faults.no_row none bad) = rw (eq-eqb e.count 0 none, not_row l e.offset bad) refl
rows_told form l bytes i e p (faults.no_list some out) = rw (ne_eqb e.count 0 some, not_data l bytes e.offset (e.count * row_bytes l.row_size) out) refl
rows_told form l bytes i e p (faults.no_number rows n few behind held are stand holds here bad) =
    let some : e.count ≢ 0 = λ z. omega (arith, few, z) in
    let first : number_start l e.offset 0 ≡ e.offset = omega arith in
    let all : 0 + length rows ≡ length rows = omega arith in
    let silent = numbers_silent l bytes stand.0 e.offset 0 rows (are_held l rows held are) (rw first stand.1) in
    let line = number_told l bytes e.offset (length rows) n (number_is l bytes e.offset (length rows) n holds here) (not_row l n bad) in
    rw (ne_eqb e.count 0 some, data_yes l bytes e.offset (e.count * row_bytes l.row_size) behind) (first_at (number_line l bytes e.offset) 0 (length rows) e.count (theme_fault (number_start l e.offset (length rows)) codes.ThemeRow) silent few (rw all line))
rows_told form l bytes i e p (faults.no_bitmap out) = rw (false_of (is_bitmap l bytes e) (λ h. let b = bitmap_is l bytes e h in out b.0 b.1)) refl
rows_told form l bytes i e p (faults.padded k n behind low high clear set) =
    let line : pad_line bytes e.offset k ≡ Some (theme_fault (e.offset + k / 8) codes.ThemePad) = rw set refl in
    let there : l.rows + (k - l.rows) ≡ k = omega (arith, low) in
    let silent = over_silent (pad_line bytes e.offset) l.rows (k - l.rows) (λ j a b. let c = clear j a (omega (arith, b, low)) in rw c refl) in
    rw (bitmap_yes l bytes e n behind) (first_at (pad_line bytes e.offset) l.rows (k - l.rows) (8 * e.count - l.rows) (theme_fault (e.offset + k / 8) codes.ThemePad) silent (omega (arith, low, high)) (rw there line))
