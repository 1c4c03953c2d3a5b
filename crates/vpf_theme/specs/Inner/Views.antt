-- What contracts see of a thematic index and of the rows of an entry.
use Rattle.std.specs.Prelude.{◌≡◌, ℕ, ◌+◌, ◌-◌, ◌*◌, ◌/◌, ◌<◌, ◌≤◌, ◌==◌, if◌then◌else◌, List, [], ◌∷◌, length, map, filter, Option, Some, None, MatchOption}
use Rattle.std.specs.List.{range_with_len}
use Rattle.std.specs.Iterator.{YieldsFirst}
use Rattle.vpf_value.specs.Values.{Value}
use Rattle.vpf_theme.specs.declared.layout.Form.{Form}
use Rattle.vpf_theme.specs.declared.layout.Form.TheVariants as forms
use Rattle.vpf_theme.specs.declared.layout.Layout.{Layout}
use Rattle.vpf_theme.specs.declared.entries.Extent.{Extent}
use Rattle.vpf_theme.specs.declared.view.ThemeView.TheInside.{Inside as ViewInside}
use Rattle.vpf_theme.specs.declared.hits.Hits.TheInside.{Inside as HitsInside}
use Rattle.vpf_theme.specs.Layouts.{HasValues, row_bytes}
use Rattle.vpf_theme.specs.Entries.{Theme, found_in, entry_of, is_marked, number_at, rows_by, theme_in}
use Rattle.vpf_theme.specs.Reading.{entries_line}

-- what the bytes behind the layout say
abbrev pub theme_view : ViewInside → Theme
theme_view t = theme_in t.layout t.bytes.now

-- the layout is one of values, and no entry has a fault
pub record IsOpenedTheme (t : ViewInside) : Type 0 where
  pub values : HasValues t.layout
  pub faultless : entries_line t.layout t.bytes.now ≡ None

-- the data of an entry lie in the file
abbrev pub HasData : Form → Layout → List ℕ → Extent → Type 0
HasData forms.List l bytes e = 0 < e.count → e.offset + e.count * row_bytes l.row_size ≤ length bytes
HasData forms.Bitmap l bytes e = e.offset + (l.rows + 7) / 8 ≤ length bytes

-- the one row of a list of one, unless it was given
abbrev pub one_left : ℕ → ℕ → List ℕ
one_left row next = if next == 0 then row ∷ [] else []

-- the rows of a list from number `next` on
abbrev pub listed_left : Layout → List ℕ → Extent → ℕ → List ℕ
listed_left l bytes e next = if e.count == 0 then one_left e.offset next else map (number_at l bytes e.offset) (range_with_len next (e.count - next))

-- the rows of a bitmap behind row `next`
abbrev pub marked_left : Layout → List ℕ → Extent → ℕ → List ℕ
marked_left l bytes e next = filter (λ row. is_marked bytes e.offset (row - 1)) (range_with_len (next + 1) (l.rows - next))

-- the rows of an entry that are left
abbrev pub entry_rows_left : Form → Layout → List ℕ → Extent → ℕ → List ℕ
entry_rows_left forms.List l bytes e next = listed_left l bytes e next
entry_rows_left forms.Bitmap l bytes e next = marked_left l bytes e next

-- the rows of an entry that are left, and how many rows it lists in all
pub record Rows : Type 0 where
  pub left : List ℕ
  pub listed : ℕ

abbrev pub hits_view : HitsInside → Rows
hits_view h = record { left = entry_rows_left h.layout.form h.layout h.bytes.now h.extent h.next; listed = length (rows_by h.layout.form h.layout h.bytes.now h.extent) }

abbrev pub HasHits : HitsInside → Type 0
HasHits h = HasData h.layout.form h.layout h.bytes.now h.extent

-- all rows of an entry
abbrev pub all_rows : List ℕ → Rows
all_rows rows = record { left = rows; listed = length rows }

-- a call gave the first row that was left, or none where none was, and how many are listed stays
pub record GivesRow (old : Rows) (row : Option ℕ) (new : Rows) : Type 0 where
  pub first : YieldsFirst (λ (rows : Rows). rows.left) old row new
  pub listed : new.listed ≡ old.listed

-- a step of the rows of an entry: none is left, or the first of them and where the others begin
abbrev pub StepsRow : Form → Layout → List ℕ → Extent → ℕ → Option (ℕ × ℕ) → Type 0
StepsRow form l bytes e next step = MatchOption step (entry_rows_left form l bytes e next ≡ []) (λ s. entry_rows_left form l bytes e next ≡ s.0 ∷ entry_rows_left form l bytes e s.1)

-- the place of the first entry that has the value
abbrev pub IsPlace : Layout → List ℕ → Value → Option ℕ → Type 0
IsPlace l bytes v None = found_in v (theme_in l bytes).entries ≡ None
IsPlace l bytes v (Some i) = (i < l.entries) × (found_in v (theme_in l bytes).entries ≡ Some (entry_of l bytes i).rows)
