-- Each entry of a thematic index that is read lists rows of its table.
use Rattle.std.proofs.Common.{[], ◌≡◌, ℕ, ◌-◌, ◌*◌, ◌<◌, ◌≤◌, ◌==◌, Bool, true, false, not, List, ◌∷◌, map, zero, suc, Option, None, Some, Result, Ok, Err, refl, sym, subst, arith}
use Rattle.std.specs.Prelude.{if◌then◌else◌}
use Rattle.std.specs.List.{range_with_len}
use Rattle.std.specs.Option.{option_or}
use Rattle.std.proofs.lemmas.Bool.Decides.{nat_tests}
use Rattle.std.proofs.lemmas.List.Elements.{All-filter}
use Rattle.std.proofs.lemmas.List.FromFn.{get_or-map-range_with_len, get_or-range_with_len, length-map-range_with_len, length-range_with_len}
use Rattle.vpf_base.specs.Results.{◌>>=◌}
use Rattle.vpf_base.specs.declared.orders.Order.{Order}
use Rattle.vpf_triplet.specs.declared.places.Place.{Place}
use Rattle.vpf_triplet.specs.declared.places.Code.{Code}
use Rattle.vpf_triplet.specs.declared.places.Code.TheVariants as codes
use Rattle.vpf_findings.specs.Firsts.{first_over}
use Rattle.vpf_findings.specs.Inner.FirstLaws.{or-none_both, over_none}
use Rattle.vpf_theme.specs.declared.layout.Form.{Form}
use Rattle.vpf_theme.specs.declared.layout.Form.TheVariants as forms
use Rattle.vpf_theme.specs.declared.layout.Layout.{Layout}
use Rattle.vpf_theme.specs.declared.entries.Extent.{Extent}
use Rattle.vpf_theme.specs.Layouts.{entry_start, layout_of, row_bytes}
use Rattle.vpf_theme.specs.Entries.{Theme, entry_of, extent_of, is_marked, number_at, number_start, rows_by, theme_in, AreRows}
use Rattle.vpf_theme.specs.Findings.{no_entry}
use Rattle.vpf_theme.specs.Reading.{cut_line, entries_line, entry_line, entry_rows_line, fault_where, is_behind, is_row, number_line, numbers_line, sort_line, theme_of, unless_fault}
use Rattle.vpf_theme.specs.Agreeing.{HaveRows}
use Rattle.vpf_theme.specs.Inner.FaultLaws.{entry_none}

-- the number of a row of a table of n rows
abbrev IsRow : ℕ → ℕ → Type 0
IsRow n row = (1 ≤ row) × (row ≤ n)

-- there is no fault where the test passes
passes : (test : Bool) (at : ℕ) (code : Code) → fault_where (not test) at code ≡ None → test ≡ true
passes true at code h = refl
passes false at code h = absurd cc

is_row_so : (l : Layout) (row : ℕ) → is_row l row ≡ true → IsRow l.rows row
is_row_so l row h = grind (arith, nat_tests)

one_row : (n row : ℕ) → IsRow n row → AreRows n (row ∷ [])
one_row n row is zero d h = is
one_row n row is (suc k) d h = absurd (omega arith)

-- the numbers of a list
number_rows : (l : Layout) (bytes : List ℕ) (offset count : ℕ) → first_over (number_line l bytes offset) 0 count ≡ None
    → AreRows l.rows (map (number_at l bytes offset) (range_with_len 0 count))
number_rows l bytes offset count none k d h =
    let within : k < count = omega (arith, h, length-map-range_with_len (number_at l bytes offset) 0 count) in
    let silent : number_line l bytes offset k ≡ None = over_none (number_line l bytes offset) 0 count none k (omega arith) (omega arith) in
    subst (IsRow l.rows) (sym (get_or-map-range_with_len (number_at l bytes offset) 0 count k k d within (omega arith)))
    (is_row_so l (number_at l bytes offset k) (passes (is_row l (number_at l bytes offset k)) (number_start l offset k) codes.ThemeRow silent))

-- a list, of one row or of several
list_rows : (l : Layout) (bytes : List ℕ) (i : ℕ) (e : Extent) (one : Bool)
    → (if one then fault_where (not (is_row l e.offset)) (entry_start l i) codes.ThemeRow else numbers_line l bytes i e) ≡ None
    → AreRows l.rows (if one then e.offset ∷ [] else map (number_at l bytes e.offset) (range_with_len 0 e.count))
list_rows l bytes i e true none = one_row l.rows e.offset (is_row_so l e.offset (passes (is_row l e.offset) (entry_start l i) codes.ThemeRow none))
list_rows l bytes i e false none =
    let outside = fault_where (not (is_behind l bytes e.offset (e.count * row_bytes l.row_size))) (entry_start l i) codes.ThemeSpan in
    number_rows l bytes e.offset e.count ((or-none_both outside (first_over (number_line l bytes e.offset) 0 e.count) none).1)

-- the rows of a bitmap are some of all
all_rows : (n : ℕ) → AreRows n (range_with_len 1 n)
all_rows n k d h =
    let within : k < n = omega (arith, h, length-range_with_len 1 n) in
    subst (IsRow n) (sym (get_or-range_with_len 1 n k d within)) (omega arith, omega arith)

data_rows : (form : Form) (l : Layout) (bytes : List ℕ) (i : ℕ) (e : Extent) → entry_rows_line form l bytes i e ≡ None → AreRows l.rows (rows_by form l bytes e)
data_rows forms.List l bytes i e none = list_rows l bytes i e (e.count == 0) none
data_rows forms.Bitmap l bytes i e none = All-filter (λ row. is_marked bytes e.offset (row - 1)) (IsRow l.rows) (range_with_len 1 l.rows) (all_rows l.rows)

entry_rows : (l : Layout) (bytes : List ℕ) (i : ℕ) → entry_line l bytes i ≡ None → AreRows l.rows (entry_of l bytes i).rows
unfolding entry_line entry_of
entry_rows l bytes i none =
    let rows = entry_rows_line l.form l bytes i (extent_of l bytes i) in
    let later = or-none_both (cut_line l bytes i) (option_or (sort_line l bytes i) rows) none in
    data_rows l.form l bytes i (extent_of l bytes i) ((or-none_both (sort_line l bytes i) rows later.1).1)

entries_rows : (l : Layout) (bytes : List ℕ) → entries_line l bytes ≡ None → HaveRows (theme_in l bytes)
entries_rows l bytes none i h =
    let within : i < l.entries = omega (arith, h, length-map-range_with_len (entry_of l bytes) 0 l.entries) in
    rw (get_or-map-range_with_len (entry_of l bytes) 0 l.entries i i no_entry within (omega arith)) (entry_rows l bytes i (entry_none l bytes i none within))

unless_rows : (fault : Option Place) (t u : Theme) → (fault ≡ None → HaveRows t) → unless_fault fault t ≡ Ok u → HaveRows u
unless_rows None t u have e = let same : t ≡ u = cc in subst HaveRows same (have refl)
unless_rows (Some place) t u have e = absurd cc

answer_rows : (answer : Result Layout Place) (bytes : List ℕ) (t : Theme)
    → (answer >>= λ l. unless_fault (entries_line l bytes) (theme_in l bytes)) ≡ Ok t → HaveRows t
answer_rows (Ok l) bytes t e = unless_rows (entries_line l bytes) (theme_in l bytes) t (entries_rows l bytes) e
answer_rows (Err place) bytes t e = absurd cc

-- what is read as an index lists rows of its table
pub read_rows : (order : Order) (bytes : List ℕ) (t : Theme) → theme_of order bytes ≡ Ok t → HaveRows t
unfolding theme_of
read_rows order bytes t e = answer_rows (layout_of order bytes) bytes t e
