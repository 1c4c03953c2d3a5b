-- The data of an entry are spelled exactly where they are read, and no line says anything of them.
use Rattle.std.proofs.Common.{[], ◌≡◌, ℕ, zero, suc, ◌+◌, ◌-◌, ◌*◌, ◌/◌, ◌<◌, ◌≤◌, Bool, true, false, List, ◌∷◌, ◌++◌, length, map, drop, get_or, append_assoc, None, nat_eq, refl, sym, ap, subst, ◌∙◌, arith, inl, inr, add-one}
use Rattle.std.specs.Prelude.{All, Contains, filter, if◌then◌else◌}
use Rattle.std.specs.List.{range_with_len}
use Rattle.std.specs.List.Sorted.{IsStrictlyIncreasing}
use Rattle.std.proofs.lemmas.Bool.{cases_eq, cases_lt, eq-eqb, le-leb, ne_eqb}
use Rattle.std.proofs.lemmas.Bool.Decides.{nat_tests}
use Rattle.std.proofs.lemmas.List.Elements.{All-contains, filter_passes}
use Rattle.std.proofs.lemmas.List.FromFn.{get_or-range_with_len, length-map-range_with_len, length-range_with_len}
use Rattle.std.proofs.lemmas.List.Kept.{IsStrictlyIncreasing-filter}
use Rattle.vpf_base.proofs.ByteLists.{IsBytes-drop}
use Rattle.vpf_base.specs.Bytes.{IsBytes}
use Rattle.vpf_base.proofs.Booleans.{or_true, same_bool, refuted}
use Rattle.vpf_triplet.specs.declared.places.Code.TheVariants as codes
use Rattle.vpf_base.specs.Numbers.{number}
use Rattle.vpf_findings.specs.Inner.FirstLaws.{or-none_both, over_none, over_silent}
use Rattle.vpf_theme.specs.declared.layout.Form.{Form}
use Rattle.vpf_theme.specs.declared.layout.Form.TheVariants as forms
use Rattle.vpf_theme.specs.declared.layout.Layout.{Layout}
use Rattle.vpf_theme.specs.declared.entries.Extent.{Extent}
use Rattle.vpf_theme.specs.Layouts.{directory_end, row_bytes}
use Rattle.vpf_theme.specs.Entries.{is_marked, listed_rows, marked_rows, number_at, number_start, row_number, rows_by, AreRows}
use Rattle.vpf_findings.specs.Firsts.{first_over}
use Rattle.vpf_theme.specs.Reading.{bitmap_line, is_bitmap, is_behind, is_row, list_line, number_line, numbers_line, pad_line, entry_rows_line}
use Rattle.vpf_theme.specs.Spelling.{AreData, AreNumbers, HoldsRow, IsBitmap, IsList, LiesBehind, row_width, row_numbers_text}
use Rattle.vpf_theme.proofs.AgreementLemmas.{tail_rises}
use Rattle.vpf_theme.proofs.DataLemmas.{all_range, bitmap_data, list_many, numbers_data}
use Rattle.vpf_theme.proofs.FaultLemmas.{no_fault}
use Rattle.vpf_theme.proofs.PieceLemmas.{row_again, row_held, row_stands}
use Rattle.vpf_theme.specs.Inner.PieceLaws.{after, length-row}
use Rattle.vpf_theme.specs.Inner.StoredLaws.{holds_row as has}

pub row_yes : (l : Layout) (n : ℕ) → 1 ≤ n → n ≤ l.rows → is_row l n ≡ true
row_yes l n low high = rw (le-leb 1 n low, le-leb n l.rows high) refl

pub data_yes : (l : Layout) (bytes : List ℕ) (offset len : ℕ) → LiesBehind l bytes offset len → is_behind l bytes offset len ≡ true
data_yes l bytes offset len h = rw (le-leb (directory_end l) offset h.0, le-leb (offset + len) (length bytes) h.1) refl

pub data_behind : (l : Layout) (bytes : List ℕ) (offset len : ℕ) → is_behind l bytes offset len ≡ true → LiesBehind l bytes offset len
data_behind l bytes offset len h = (grind (arith, nat_tests), grind (arith, nat_tests))

-- ---- a list of several rows

-- each number is held by its bytes, and is a row
abbrev pub AreHeld : Layout → List ℕ → Type 0
AreHeld l [] = Unit {0}
AreHeld l (row ∷ rows) = (HoldsRow l.row_size row × ((1 ≤ row) × (row ≤ l.rows))) × AreHeld l rows

pub are_held : (l : Layout) (rows : List ℕ) → All (HoldsRow l.row_size) rows → AreRows l.rows rows → AreHeld l rows
are_held l [] h r = tt
are_held l (row ∷ rows) h r = ((h zero row (omega arith), r zero row (omega arith)), are_held l rows (λ k d m. h (suc k) d (omega arith)) (λ k d m. r (suc k) d (omega arith)))

-- the numbers from number k on stand there
abbrev pub StandFrom : Layout → List ℕ → List ℕ → ℕ → ℕ → List ℕ → Type 0
StandFrom l bytes rest at k rows = drop (number_start l at k) bytes ≡ row_numbers_text l.order l.row_size rows ++ rest

number_there : (l : Layout) (bytes rest : List ℕ) (at k row : ℕ) (rows : List ℕ) → HoldsRow l.row_size row → StandFrom l bytes rest at k (row ∷ rows) → number_at l bytes at k ≡ row
unfolding number_at
number_there l bytes rest at k row rows h e = ap (row_number l.order l.row_size) (e ∙ append_assoc (number l.order (row_width l.row_size) row) (row_numbers_text l.order l.row_size rows) rest) ∙ row_again l.order l.row_size row (row_numbers_text l.order l.row_size rows ++ rest) h

next_number : (l : Layout) (bytes rest : List ℕ) (at k row : ℕ) (rows : List ℕ) → StandFrom l bytes rest at k (row ∷ rows) → StandFrom l bytes rest at (k + 1) rows
next_number l bytes rest at k row rows e =
    let piece = number l.order (row_width l.row_size) row in
    let z : number_start l at k + row_bytes l.row_size ≡ number_start l at (k + 1) = omega arith in
    let f = after bytes piece (row_numbers_text l.order l.row_size rows ++ rest) (number_start l at k) (row_bytes l.row_size) (length-row l.order l.row_size row) (e ∙ append_assoc piece (row_numbers_text l.order l.row_size rows) rest) in
    rw z at f

numbers_again : (l : Layout) (bytes rest : List ℕ) (at k : ℕ) (rows : List ℕ) → AreHeld l rows → StandFrom l bytes rest at k rows → map (number_at l bytes at) (range_with_len k (length rows)) ≡ rows
numbers_again l bytes rest at k [] h e = refl
numbers_again l bytes rest at k (row ∷ rows) h e = rw (number_there l bytes rest at k row rows h.0.0 e, numbers_again l bytes rest at (k + 1) rows h.1 (next_number l bytes rest at k row rows e)) refl

pub numbers_silent : (l : Layout) (bytes rest : List ℕ) (at k : ℕ) (rows : List ℕ) → AreHeld l rows → StandFrom l bytes rest at k rows → first_over (number_line l bytes at) k (length rows) ≡ None
numbers_silent l bytes rest at k [] h e = refl
numbers_silent l bytes rest at k (row ∷ rows) h e =
    let more = numbers_silent l bytes rest at (k + 1) rows h.1 (next_number l bytes rest at k row rows e) in
    let silent : first_over (number_line l bytes at) (suc k) (length rows) ≡ None = rw (← add-one) more in
    rw (number_there l bytes rest at k row rows h.0.0 e, row_yes l row h.0.1.0 h.0.1.1) silent

first_stands : (l : Layout) (bytes : List ℕ) (e : Extent) (rows : List ℕ) (n : AreNumbers l bytes e rows) → StandFrom l bytes n.stand.0 e.offset 0 rows
first_stands l bytes e rows n = let z : number_start l e.offset 0 ≡ e.offset = omega arith in rw z n.stand.1

many_again : (l : Layout) (bytes : List ℕ) (e : Extent) (rows : List ℕ) → AreRows l.rows rows → AreNumbers l bytes e rows → listed_rows l bytes e ≡ rows
many_again l bytes e rows r n =
    let z : nat_eq e.count 0 ≡ false = ne_eqb e.count 0 (λ k. omega (arith, k, n.some)) in
    rw (z, n.count) (numbers_again l bytes n.stand.0 e.offset 0 rows (are_held l rows n.held r) (first_stands l bytes e rows n))

many_silent : (l : Layout) (bytes : List ℕ) (i : ℕ) (e : Extent) (rows : List ℕ) → AreRows l.rows rows → AreNumbers l bytes e rows → list_line l bytes i e ≡ None
many_silent l bytes i e rows r n =
    let z : nat_eq e.count 0 ≡ false = ne_eqb e.count 0 (λ k. omega (arith, k, n.some)) in
    let s = numbers_silent l bytes n.stand.0 e.offset 0 rows (are_held l rows n.held r) (first_stands l bytes e rows n) in
    rw (z, data_yes l bytes e.offset (e.count * row_bytes l.row_size) n.behind, n.count) s

list_again : (l : Layout) (bytes : List ℕ) (e : Extent) (rows : List ℕ) → AreRows l.rows rows → IsList l bytes e rows → listed_rows l bytes e ≡ rows
list_again l bytes e rows r (inl one) = rw (eq-eqb e.count 0 one.0, one.1) refl
list_again l bytes e rows r (inr n) = many_again l bytes e rows r n

list_silent : (l : Layout) (bytes : List ℕ) (i : ℕ) (e : Extent) (rows : List ℕ) → AreRows l.rows rows → IsList l bytes e rows → list_line l bytes i e ≡ None
list_silent l bytes i e rows r (inl one) =
    let row = (subst (AreRows l.rows) one.1 r) zero e.offset (omega arith) in
    rw (eq-eqb e.count 0 one.0, row_yes l e.offset row.0 row.1) refl
list_silent l bytes i e rows r (inr n) = many_silent l bytes i e rows r n

-- ---- the rows that a bitmap marks

-- rows that rise from `a` on, up to n
abbrev Rises : ℕ → ℕ → List ℕ → Type 0
Rises a n [] = Unit {0}
Rises a n (r ∷ rs) = (a ≤ r) × ((r ≤ n) × Rises (r + 1) n rs)

rises_in : (a n : ℕ) (rows : List ℕ) → (0 < length rows → a ≤ get_or rows 0 0) → AreRows n rows → IsStrictlyIncreasing rows → Rises a n rows
rises_in a n [] f h r = tt
rises_in a n (x ∷ rows) f h r = (f (omega arith), ((h zero x (omega arith)).1, rises_in (x + 1) n rows (λ m. let k = r zero (omega arith) in omega (arith, k)) (λ j d m. h (suc j) d (omega arith)) (tail_rises x rows r)))

has_none : (a n row : ℕ) (rows : List ℕ) → Rises a n rows → row < a → has rows row ≡ false
has_none a n row [] r h = refl
has_none a n row (x ∷ rows) r h = rw (ne_eqb x row (λ e. omega (arith, r.0, e))) (has_none (x + 1) n row rows r.1.1 (omega (arith, r.0)))

contains_has : (rows : List ℕ) (row k : ℕ) → k < length rows → get_or rows k row ≡ row → has rows row ≡ true
contains_has [] row k h e = absurd (omega arith)
contains_has (x ∷ rows) row zero h e = rw (eq-eqb x row e) refl
contains_has (x ∷ rows) row (suc k) h e = rw (contains_has rows row k (omega arith) e, or_true) refl

has_contains : (rows : List ℕ) (row : ℕ) → has rows row ≡ true → Contains rows row
has_contains [] row h = absurd (cc h)
has_contains (x ∷ rows) row h = elim (cases_eq x row) [
  | inl e ↦ (zero, omega arith, e)
  | inr ne ↦ let k = rw (ne_eqb x row ne) at h in let c = has_contains rows row k in (suc c.0, omega (arith, c.1), c.2)
]

kept_none : (p : ℕ → Bool) (a n : ℕ) → ((row : ℕ) → a ≤ row → row < a + n → p row ≡ false) → filter p (range_with_len a n) ≡ []
kept_none p a zero h = refl
kept_none p a (suc n) h = rw (h a (omega arith) (omega arith)) (kept_none p (a + 1) n (λ row low high. h row (omega arith) (omega arith)))

marks_are_rows : (p : ℕ → Bool) (rows : List ℕ) (a n last : ℕ) → a + n ≡ last + 1 → Rises a last rows → ((row : ℕ) → a ≤ row → row < a + n → p row ≡ has rows row) → filter p (range_with_len a n) ≡ rows
marks_are_rows p [] a n last z r h = kept_none p a n h
marks_are_rows p (x ∷ rows) a zero last z r h = absurd (omega (arith, r.0, r.1.0))
marks_are_rows p (x ∷ rows) a (suc n) last z r h = elim (cases_eq x a) [
  | inl e ↦
      let here = h a (omega arith) (omega arith) in
      let told : p a ≡ true = rw (eq-eqb x a e) at here in
      let later : (row : ℕ) → a + 1 ≤ row → row < a + 1 + n → p row ≡ has rows row = λ row low high.
      let there = h row (omega arith) (omega arith) in rw (ne_eqb x row (λ k. omega (arith, k, e))) at there in
      let next : Rises (a + 1) last rows = rw (← e) r.1.1 in
      rw (told, marks_are_rows p rows (a + 1) n last (omega arith) next later, e) refl
  | inr ne ↦
      let above : a < x = omega (arith, r.0, ne) in
      let here = h a (omega arith) (omega arith) in
      let told : p a ≡ false = here ∙ has_none x last a (x ∷ rows) (omega arith, (r.1.0, r.1.1)) above in
      rw told (marks_are_rows p (x ∷ rows) (a + 1) n last (omega arith) (omega arith, (r.1.0, r.1.1)) (λ row low high. h row (omega arith) (omega arith)))
]

first_row : (n : ℕ) (rows : List ℕ) → AreRows n rows → 0 < length rows → 1 ≤ get_or rows 0 0
first_row n rows r h = (r 0 0 h).0

bitmap_again : (l : Layout) (bytes : List ℕ) (e : Extent) (rows : List ℕ) → AreRows l.rows rows → IsBitmap l bytes e rows → marked_rows l bytes e ≡ rows
bitmap_again l bytes e rows r b = marks_are_rows (λ row. is_marked bytes e.offset (row - 1)) rows 1 l.rows l.rows (omega arith) (rises_in 1 l.rows rows (first_row l.rows rows r) r b.rise) (λ row low high.
    let z : row - 1 + 1 ≡ row = omega arith in
    let m = b.marks (row - 1) (omega (arith, b.count)) in
    same_bool (is_marked bytes e.offset (row - 1)) (has rows row) (λ t. let c = rw z at (m.0 t) in contains_has rows row c.0 c.1 c.2) (λ t. m.1 (rw z (has_contains rows row t))))

bitmap_silent : (l : Layout) (bytes : List ℕ) (i : ℕ) (e : Extent) (rows : List ℕ) → AreRows l.rows rows → IsBitmap l bytes e rows → bitmap_line l bytes i e ≡ None
bitmap_silent l bytes i e rows r b =
    let pads : first_over (pad_line bytes e.offset) l.rows (8 * e.count - l.rows) ≡ None = over_silent (pad_line bytes e.offset) l.rows (8 * e.count - l.rows) (λ k low high.
    let clear = refuted (is_marked bytes e.offset k) (λ t.
    let c = (b.marks k (omega arith)).0 t in
    let inside = All-contains (λ row. (1 ≤ row) × (row ≤ l.rows)) rows (k + 1) r c in
    omega (arith, inside.1)) in
    rw clear refl) in
    rw (eq-eqb e.count ((l.rows + 7) / 8) b.count, data_yes l bytes e.offset e.count b.behind) pads

-- ---- what is spelled is read

pub rows_again : (form : Form) (l : Layout) (bytes : List ℕ) (e : Extent) (rows : List ℕ) → AreRows l.rows rows → AreData form l bytes e rows → rows_by form l bytes e ≡ rows
rows_again forms.List l bytes e rows r d = list_again l bytes e rows r d
rows_again forms.Bitmap l bytes e rows r d = bitmap_again l bytes e rows r d

pub rows_silent : (form : Form) (l : Layout) (bytes : List ℕ) (i : ℕ) (e : Extent) (rows : List ℕ) → AreRows l.rows rows → AreData form l bytes e rows → entry_rows_line form l bytes i e ≡ None
rows_silent forms.List l bytes i e rows r d = list_silent l bytes i e rows r d
rows_silent forms.Bitmap l bytes i e rows r d = bitmap_silent l bytes i e rows r d

-- ---- what is read is spelled

pub numbers_stand : (l : Layout) (bytes : List ℕ) (at k n : ℕ) → IsBytes bytes → number_start l at k + n * row_bytes l.row_size ≤ length bytes → drop (number_start l at k) bytes ≡ row_numbers_text l.order l.row_size (map (number_at l bytes at) (range_with_len k n)) ++ drop (number_start l at k + n * row_bytes l.row_size) bytes
unfolding number_at
numbers_stand l bytes at k zero fits h = let z : number_start l at k ≡ number_start l at k + zero * row_bytes l.row_size = omega arith in ap (λ (m : ℕ). drop m bytes) z
numbers_stand l bytes at k (suc n) fits h =
    let start = number_start l at k in
    let size = row_bytes l.row_size in
    let piece = number l.order (row_width l.row_size) (number_at l bytes at k) in
    let others = row_numbers_text l.order l.row_size (map (number_at l bytes at) (range_with_len (k + 1) n)) in
    let z : start + size ≡ number_start l at (k + 1) = omega arith in
    let y : number_start l at (k + 1) + n * size ≡ start + suc n * size = omega arith in
    let here = row_stands l.order l.row_size bytes start fits (omega arith) in
    let later = numbers_stand l bytes at (k + 1) n fits (omega arith) in
    here ∙ ap (λ (m : ℕ). piece ++ drop m bytes) z ∙ ap (λ (x : List ℕ). piece ++ x) (later ∙ ap (λ (m : ℕ). others ++ drop m bytes) y) ∙ sym (append_assoc piece others (drop (start + suc n * size) bytes))

pub number_held : (l : Layout) (bytes : List ℕ) (at k : ℕ) → IsBytes bytes → HoldsRow l.row_size (number_at l bytes at k)
unfolding number_at
number_held l bytes at k fits = row_held l.order l.row_size (drop (number_start l at k) bytes) (IsBytes-drop (number_start l at k) bytes fits)

many_stand : (l : Layout) (bytes : List ℕ) (i : ℕ) (e : Extent) → IsBytes bytes → numbers_line l bytes i e ≡ None → (e.count ≡ 0 → ⊥) → AreNumbers l bytes e (map (number_at l bytes e.offset) (range_with_len 0 e.count))
many_stand l bytes i e fits h ne =
    let behind = data_behind l bytes e.offset (e.count * row_bytes l.row_size) (numbers_data l bytes i e h) in
    let z : number_start l e.offset 0 ≡ e.offset = omega arith in
    let stand = numbers_stand l bytes e.offset 0 e.count fits (omega (arith, behind.1)) in
    record {
      some = omega (arith, ne);
      count = sym (length-map-range_with_len (number_at l bytes e.offset) 0 e.count);
      behind = behind;
      held = all_range (HoldsRow l.row_size) (number_at l bytes e.offset) e.count (λ k m. number_held l bytes e.offset k fits);
      stand = (drop (e.offset + e.count * row_bytes l.row_size) bytes, rw z at stand);
    }

list_stands : (l : Layout) (bytes : List ℕ) (i : ℕ) (e : Extent) → IsBytes bytes → list_line l bytes i e ≡ None → IsList l bytes e (listed_rows l bytes e)
list_stands l bytes i e fits h = elim (cases_eq e.count 0) [
  | inl z ↦ let t : nat_eq e.count 0 ≡ true = eq-eqb e.count 0 z in rw t (inl (z, refl))
  | inr ne ↦ let t : nat_eq e.count 0 ≡ false = ne_eqb e.count 0 ne in rw t (inr (many_stand l bytes i e fits (list_many l bytes i e h ne) ne))
]

range_rises : (a n : ℕ) → IsStrictlyIncreasing (range_with_len a n)
range_rises a n k h =
    let len = length-range_with_len a n in
    rw (get_or-range_with_len a n k 0 (omega (arith, len)), get_or-range_with_len a n (k + 1) 0 (omega (arith, len))) (omega arith)

kept_case : (b : Bool) (x a : ℕ) (rest : List ℕ) → Contains rest x → Contains (if b then a ∷ rest else rest) x
kept_case true x a rest c = (suc c.0, omega (arith, c.1), c.2)
kept_case false x a rest c = c

kept_one : (p : ℕ → Bool) (a n x : ℕ) → p x ≡ true → a ≤ x → x < a + n → Contains (filter p (range_with_len a n)) x
kept_one p a zero x t low high = absurd (omega arith)
kept_one p a (suc n) x t low high = elim (cases_eq x a) [
  | inl e ↦ let here = rw e at t in rw here (zero, omega arith, sym e)
  | inr ne ↦ kept_case (p a) x a (filter p (range_with_len (a + 1) n)) (kept_one p (a + 1) n x t (omega (arith, ne)) (omega arith))
]

marks_told : (l : Layout) (bytes : List ℕ) (e : Extent) (k : ℕ) → first_over (pad_line bytes e.offset) l.rows (8 * e.count - l.rows) ≡ None → k < 8 * e.count → is_marked bytes e.offset k ≡ true → Contains (marked_rows l bytes e) (k + 1)
marks_told l bytes e k pads h t = elim (cases_lt k l.rows) [
  | inl lt ↦ let z : k ≡ k + 1 - 1 = omega arith in let here = rw z at t in kept_one (λ row. is_marked bytes e.offset (row - 1)) 1 l.rows (k + 1) here (omega arith) (omega arith)
  | inr ge ↦
      let clear = no_fault (is_marked bytes e.offset k) (e.offset + k / 8) codes.ThemePad (over_none (pad_line bytes e.offset) l.rows (8 * e.count - l.rows) pads k ge (omega arith)) in
      let both : true ≡ false = sym t ∙ clear in
      absurd (cc both)
]

bitmap_stands : (l : Layout) (bytes : List ℕ) (i : ℕ) (e : Extent) → bitmap_line l bytes i e ≡ None → IsBitmap l bytes e (marked_rows l bytes e)
bitmap_stands l bytes i e h =
    let is = bitmap_data l bytes i e h in
    let p : ℕ → Bool = λ row. is_marked bytes e.offset (row - 1) in
    let pads = bitmap_pads l bytes i e h in
    record {
      count = grind (arith, nat_tests);
      behind = bitmap_behind l bytes e is;
      rise = IsStrictlyIncreasing-filter p (range_with_len 1 l.rows) (range_rises 1 l.rows);
      marks = λ k m. (
        marks_told l bytes e k pads m,
        λ c.
            let t = All-contains (λ row. p row ≡ true) (marked_rows l bytes e) (k + 1) (filter_passes p (range_with_len 1 l.rows)) c in
            let z : k + 1 - 1 ≡ k = omega arith in
            rw z at t,
      );
    }
  where
    bitmap_behind : (l : Layout) (bytes : List ℕ) (e : Extent) → is_bitmap l bytes e ≡ true → LiesBehind l bytes e.offset e.count
    bitmap_behind l bytes e h = (grind (arith, nat_tests), grind (arith, nat_tests))

    bitmap_pads : (l : Layout) (bytes : List ℕ) (i : ℕ) (e : Extent) → bitmap_line l bytes i e ≡ None → first_over (pad_line bytes e.offset) l.rows (8 * e.count - l.rows) ≡ None
    bitmap_pads l bytes i e h = (or-none_both _ (first_over (pad_line bytes e.offset) l.rows (8 * e.count - l.rows)) h).1

pub rows_stand : (form : Form) (l : Layout) (bytes : List ℕ) (i : ℕ) (e : Extent) → IsBytes bytes → entry_rows_line form l bytes i e ≡ None → AreData form l bytes e (rows_by form l bytes e)
rows_stand forms.List l bytes i e fits h = list_stands l bytes i e fits h
rows_stand forms.Bitmap l bytes i e fits h = bitmap_stands l bytes i e h
