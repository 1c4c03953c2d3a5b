-- The data of an entry on which no line says anything.
use Rattle.std.proofs.Common.{[], ◌≡◌, ℕ, zero, suc, ◌+◌, ◌-◌, ◌*◌, ◌/◌, ◌<◌, ◌≤◌, Bool, true, false, not, cond, List, ◌∷◌, length, map, None, refl, sym, subst, arith, inl, inr}
use Rattle.std.specs.Prelude.{All, nat_eq, filter}
use Rattle.std.specs.List.{range_with_len}
use Rattle.std.proofs.lemmas.Bool.{ne_eqb, eq-eqb, cases_eq}
use Rattle.std.proofs.lemmas.Bool.Decides.{nat_tests}
use Rattle.std.proofs.lemmas.List.FromFn.{get_or-map-range_with_len, length-map-range_with_len}
use Rattle.vpf_base.proofs.Booleans.{not_false}
use Rattle.vpf_triplet.specs.declared.places.Code.TheVariants as codes
use Rattle.vpf_findings.specs.Inner.FirstLaws.{or-none_both, over_none}
use Rattle.vpf_theme.specs.declared.layout.Form.{Form}
use Rattle.vpf_theme.specs.declared.layout.Form.TheVariants as forms
use Rattle.vpf_theme.specs.declared.layout.Layout.{Layout}
use Rattle.vpf_theme.specs.declared.entries.Extent.{Extent}
use Rattle.vpf_theme.specs.Layouts.{entry_start, row_bytes}
use Rattle.vpf_theme.specs.Entries.{entry_of, extent_of, is_marked, listed_rows, number_at, number_start, rows_by, AreRows}
use Rattle.vpf_findings.specs.Firsts.{first_over}
use Rattle.vpf_theme.specs.Reading.{fault_where, is_behind, is_row, is_bitmap, number_line, numbers_line, list_line, pad_line, bitmap_line, entry_rows_line, entry_line, entries_line}
use Rattle.vpf_theme.specs.Inner.Views.{HasData}
use Rattle.vpf_theme.proofs.FaultLemmas.{no_fault, entry_rows}
use Rattle.vpf_theme.specs.Inner.FaultLaws.{entry_none}

pub list_many : (l : Layout) (bytes : List ℕ) (i : ℕ) (e : Extent) → list_line l bytes i e ≡ None → (e.count ≡ 0 → ⊥) → numbers_line l bytes i e ≡ None
list_many l bytes i e h ne = rw (ne_eqb e.count 0 ne) at h

list_one : (l : Layout) (bytes : List ℕ) (i : ℕ) (e : Extent) → list_line l bytes i e ≡ None → e.count ≡ 0 → is_row l e.offset ≡ true
list_one l bytes i e h z = let f = rw (eq-eqb e.count 0 z) at h in not_false (is_row l e.offset) (no_fault (not (is_row l e.offset)) (entry_start l i) codes.ThemeRow f)

pub numbers_data : (l : Layout) (bytes : List ℕ) (i : ℕ) (e : Extent) → numbers_line l bytes i e ≡ None → is_behind l bytes e.offset (e.count * row_bytes l.row_size) ≡ true
numbers_data l bytes i e h =
    let r = or-none_both (fault_where (not (is_behind l bytes e.offset (e.count * row_bytes l.row_size))) (entry_start l i) codes.ThemeSpan) (first_over (number_line l bytes e.offset) 0 e.count) h in
    not_false (is_behind l bytes e.offset (e.count * row_bytes l.row_size)) (no_fault (not (is_behind l bytes e.offset (e.count * row_bytes l.row_size))) (entry_start l i) codes.ThemeSpan r.0)

numbers_rows : (l : Layout) (bytes : List ℕ) (i : ℕ) (e : Extent) → numbers_line l bytes i e ≡ None → (k : ℕ) → k < e.count → is_row l (number_at l bytes e.offset k) ≡ true
numbers_rows l bytes i e h k m =
    let r = or-none_both (fault_where (not (is_behind l bytes e.offset (e.count * row_bytes l.row_size))) (entry_start l i) codes.ThemeSpan) (first_over (number_line l bytes e.offset) 0 e.count) h in
    not_false (is_row l (number_at l bytes e.offset k)) (no_fault (not (is_row l (number_at l bytes e.offset k))) (number_start l e.offset k) codes.ThemeRow (over_none (number_line l bytes e.offset) 0 e.count r.1 k (omega arith) (omega arith)))

data_ends : (l : Layout) (bytes : List ℕ) (offset len : ℕ) → is_behind l bytes offset len ≡ true → offset + len ≤ length bytes
data_ends l bytes offset len h = grind (arith, nat_tests)

pub row_bounds : (l : Layout) (n : ℕ) → is_row l n ≡ true → (1 ≤ n) × (n ≤ l.rows)
row_bounds l n h = grind (arith, nat_tests)

pub bitmap_data : (l : Layout) (bytes : List ℕ) (i : ℕ) (e : Extent) → bitmap_line l bytes i e ≡ None → is_bitmap l bytes e ≡ true
bitmap_data l bytes i e h =
    let r = or-none_both (fault_where (not (is_bitmap l bytes e)) (entry_start l i) codes.ThemeSpan) (first_over (pad_line bytes e.offset) l.rows (8 * e.count - l.rows)) h in
    not_false (is_bitmap l bytes e) (no_fault (not (is_bitmap l bytes e)) (entry_start l i) codes.ThemeSpan r.0)

bitmap_ends : (l : Layout) (bytes : List ℕ) (e : Extent) → is_bitmap l bytes e ≡ true → e.offset + (l.rows + 7) / 8 ≤ length bytes
bitmap_ends l bytes e h = grind (arith, nat_tests)

pub has_data : (form : Form) (l : Layout) (bytes : List ℕ) (i : ℕ) (e : Extent) → entry_rows_line form l bytes i e ≡ None → HasData form l bytes e
has_data forms.List l bytes i e h = λ k. data_ends l bytes e.offset (e.count * row_bytes l.row_size) (numbers_data l bytes i e (list_many l bytes i e h (λ z. omega arith)))
has_data forms.Bitmap l bytes i e h = bitmap_ends l bytes e (bitmap_data l bytes i e h)

-- ---- the rows

all_one : (P : ℕ → Type 0) (x : ℕ) → P x → All P (x ∷ [])
all_one P x p zero d h = p
all_one P x p (suc k) d h = absurd (omega arith)

pub all_range : (P : ℕ → Type 0) (f : ℕ → ℕ) (n : ℕ) → ((k : ℕ) → k < n → P (f k)) → All P (map f (range_with_len 0 n))
all_range P f n p k d h =
    let m : k < n = omega (arith, h, length-map-range_with_len f 0 n) in
    let e = get_or-map-range_with_len f 0 n k k d m (omega arith) in
    subst P (sym e) (p k m)

all_cons : (P : ℕ → Type 0) (x : ℕ) (xs : List ℕ) → P x → All P xs → All P (x ∷ xs)
all_cons P x xs p ps zero d h = p
all_cons P x xs p ps (suc k) d h = ps k d (omega arith)

all_kept : (P : ℕ → Type 0) (b : Bool) (x : ℕ) (xs : List ℕ) → P x → All P xs → All P (cond b (x ∷ xs) xs)
all_kept P true x xs p ps = all_cons P x xs p ps
all_kept P false x xs p ps = ps

all_filter : (P : ℕ → Type 0) (q : ℕ → Bool) (a n : ℕ) → ((k : ℕ) → a ≤ k → k < a + n → P k) → All P (filter q (range_with_len a n))
all_filter P q a zero p = λ k d h. absurd (omega arith)
all_filter P q a (suc n) p = all_kept P (q a) a (filter q (range_with_len (a + 1) n)) (p a (omega arith) (omega arith)) (all_filter P q (a + 1) n (λ k x y. p k (omega arith) (omega arith)))

listed_are_rows : (l : Layout) (bytes : List ℕ) (i : ℕ) (e : Extent) → list_line l bytes i e ≡ None → AreRows l.rows (listed_rows l bytes e)
listed_are_rows l bytes i e h = elim (cases_eq e.count 0) [
  | inl z ↦ let t : nat_eq e.count 0 ≡ true = eq-eqb e.count 0 z in rw t (all_one (λ row. (1 ≤ row) × (row ≤ l.rows)) e.offset (row_bounds l e.offset (list_one l bytes i e h z)))
  | inr ne ↦ let t : nat_eq e.count 0 ≡ false = ne_eqb e.count 0 ne in rw t (all_range (λ row. (1 ≤ row) × (row ≤ l.rows)) (number_at l bytes e.offset) e.count (λ k m. row_bounds l (number_at l bytes e.offset k) (numbers_rows l bytes i e (list_many l bytes i e h ne) k m)))
]

pub are_rows : (form : Form) (l : Layout) (bytes : List ℕ) (i : ℕ) (e : Extent) → entry_rows_line form l bytes i e ≡ None → AreRows l.rows (rows_by form l bytes e)
are_rows forms.List l bytes i e h = listed_are_rows l bytes i e h
are_rows forms.Bitmap l bytes i e h = all_filter (λ row. (1 ≤ row) × (row ≤ l.rows)) (λ row. is_marked bytes e.offset (row - 1)) 1 l.rows (λ k x y. (x, omega arith))

pub entry_data : (l : Layout) (bytes : List ℕ) (i : ℕ) → entries_line l bytes ≡ None → i < l.entries → HasData l.form l bytes (extent_of l bytes i)
entry_data l bytes i h k = has_data l.form l bytes i (extent_of l bytes i) (entry_rows l bytes i (entry_none l bytes i h k))

pub entry_rows_by : (l : Layout) (bytes : List ℕ) (i : ℕ) → entry_line l bytes i ≡ None → AreRows l.rows (entry_of l bytes i).rows
unfolding entry_of
entry_rows_by l bytes i h = are_rows l.form l bytes i (extent_of l bytes i) (entry_rows l bytes i h)

pub entry_are_rows : (l : Layout) (bytes : List ℕ) (i : ℕ) → entries_line l bytes ≡ None → i < l.entries → AreRows l.rows (entry_of l bytes i).rows
entry_are_rows l bytes i h k = entry_rows_by l bytes i (entry_none l bytes i h k)

pub rows-entry : (l : Layout) (bytes : List ℕ) (i : ℕ) → (entry_of l bytes i).rows ≡ rows_by l.form l bytes (extent_of l bytes i)
unfolding entry_of
rows-entry l bytes i = refl
