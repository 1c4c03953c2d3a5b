-- Reading a thematic index up to its first fault. Offsets are those of the file, and entries are looked at one by one.
use Rattle.std.specs.Prelude.{◌≡◌, ℕ, ◌+◌, ◌-◌, ◌*◌, ◌/◌, Bool, ◌==◌, ◌&&◌, not, nat_le, nat_lt, if◌then◌else◌, List, length, Option, Some, None, Result, Ok, Err}
use Rattle.std.specs.Option.{option_or}
use Rattle.std.specs.Ordering.{is_lt}
use Rattle.vpf_base.specs.Results.{◌>>=◌}
use Rattle.vpf_base.specs.declared.orders.Order.{Order}
use Rattle.vpf_triplet.specs.declared.places.Place.{Place}
use Rattle.vpf_triplet.specs.declared.places.Code.{Code}
use Rattle.vpf_triplet.specs.declared.places.Code.TheVariants as codes
use Rattle.vpf_triplet.specs.Places.{theme_fault}
use Rattle.vpf_findings.specs.Firsts.{first_over}
use Rattle.vpf_theme.specs.declared.layout.Form.{Form}
use Rattle.vpf_theme.specs.declared.layout.Form.TheVariants as forms
use Rattle.vpf_theme.specs.declared.layout.Layout.{Layout}
use Rattle.vpf_theme.specs.declared.entries.Extent.{Extent}
use Rattle.vpf_theme.specs.Layouts.{layout_of, entry_bytes, entry_start, directory_end, row_bytes}
use Rattle.vpf_theme.specs.Ordering.{value_cmp}
use Rattle.vpf_theme.specs.Entries.{Theme, value_of, extent_of, number_at, number_start, is_marked, theme_in}

-- the fault at an offset, where this holds
abbrev pub fault_where : Bool → ℕ → Code → Option Place
fault_where holds at code = if holds then Some (theme_fault at code) else None

-- the entry isn't whole in the file
abbrev pub cut_line : Layout → List ℕ → ℕ → Option Place
cut_line l bytes i = fault_where (nat_lt (length bytes) (entry_start l i + entry_bytes l)) (entry_start l i) codes.ThemeCut

-- the value is above that of the entry before
abbrev pub rises_at : Layout → List ℕ → ℕ → Bool
rises_at l bytes i = is_lt (value_cmp (value_of l bytes (i - 1)) (value_of l bytes i))

-- the directory is marked as sorted, and the value isn't above the one before
abbrev pub sort_line : Layout → List ℕ → ℕ → Option Place
sort_line l bytes i = fault_where (l.sorted && nat_lt 0 i && not (rises_at l bytes i)) (entry_start l i) codes.ThemeSort

-- so many bytes lie between the end of the directory and the end of the file
abbrev pub is_behind : Layout → List ℕ → ℕ → ℕ → Bool
is_behind l bytes offset len = nat_le (directory_end l) offset && nat_le (offset + len) (length bytes)

-- the number of a row of the table
abbrev pub is_row : Layout → ℕ → Bool
is_row l n = nat_le 1 n && nat_le n l.rows

-- number k of a list is no row
abbrev pub number_line : Layout → List ℕ → ℕ → ℕ → Option Place
number_line l bytes offset k = fault_where (not (is_row l (number_at l bytes offset k))) (number_start l offset k) codes.ThemeRow

-- the lines on a list of several row numbers
abbrev pub numbers_line : Layout → List ℕ → ℕ → Extent → Option Place
numbers_line l bytes i e = option_or (fault_where (not (is_behind l bytes e.offset (e.count * row_bytes l.row_size))) (entry_start l i) codes.ThemeSpan) (first_over (number_line l bytes e.offset) 0 e.count)

-- the lines on a list; the one row of a list of one has no bytes of its own
abbrev pub list_line : Layout → List ℕ → ℕ → Extent → Option Place
list_line l bytes i e = if e.count == 0 then fault_where (not (is_row l e.offset)) (entry_start l i) codes.ThemeRow else numbers_line l bytes i e

-- a bit past the rows is set
abbrev pub pad_line : List ℕ → ℕ → ℕ → Option Place
pad_line bytes offset k = fault_where (is_marked bytes offset k) (offset + k / 8) codes.ThemePad

-- a bitmap has a byte for each 8 rows, and its bytes lie behind the directory
abbrev pub is_bitmap : Layout → List ℕ → Extent → Bool
is_bitmap l bytes e = (e.count == (l.rows + 7) / 8) && is_behind l bytes e.offset e.count

-- the lines on a bitmap
abbrev pub bitmap_line : Layout → List ℕ → ℕ → Extent → Option Place
bitmap_line l bytes i e = option_or (fault_where (not (is_bitmap l bytes e)) (entry_start l i) codes.ThemeSpan) (first_over (pad_line bytes e.offset) l.rows (8 * e.count - l.rows))

-- the lines on the rows of an entry
abbrev pub entry_rows_line : Form → Layout → List ℕ → ℕ → Extent → Option Place
entry_rows_line forms.List l bytes i e = list_line l bytes i e
entry_rows_line forms.Bitmap l bytes i e = bitmap_line l bytes i e

-- the lines on entry i, counted from 0
unfoldable pub entry_line : Layout → List ℕ → ℕ → Option Place
entry_line l bytes i = option_or (cut_line l bytes i) (option_or (sort_line l bytes i) (entry_rows_line l.form l bytes i (extent_of l bytes i)))

-- the first fault among the entries
unfoldable pub entries_line : Layout → List ℕ → Option Place
entries_line l bytes = first_over (entry_line l bytes) 0 l.entries

-- x, unless there is a fault
abbrev pub unless_fault : {X : Type 0} → Option Place → X → Result X Place
unless_fault None x = Ok x
unless_fault (Some place) x = Err place

-- the index of a file, or its first fault
unfoldable pub theme_of : Order → List ℕ → Result Theme Place
theme_of o bytes = layout_of o bytes >>= λ l. unless_fault (entries_line l bytes) (theme_in l bytes)

-- a call answered Ok where there is no fault, and else the fault
abbrev pub Faults : {V : Type 0} → Result V Place → Option Place → Type 0
Faults (Ok v) first = first ≡ None
Faults (Err place) first = first ≡ Some place
