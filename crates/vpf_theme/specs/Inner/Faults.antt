-- The first fault of bytes that are no file of a thematic index, apart from reading: a field of the header is wrong, and those
-- that are looked at before it are right; or entries are spelled, and a line applies to the next one.
use Rattle.std.specs.Prelude.{◌≡◌, ◌≢◌, ℕ, ◌+◌, ◌*◌, ◌/◌, ◌<◌, ◌≤◌, true, false, List, [], ◌∷◌, length, All}
use Rattle.std.specs.declared.cmp.Ordering.TheVariants.{Less}
use Rattle.vpf_base.specs.declared.orders.Order.{Order}
use Rattle.vpf_triplet.specs.declared.kinds.Kind.{Kind}
use Rattle.vpf_triplet.specs.declared.kinds.Count.TheVariants.{Fixed}
use Rattle.vpf_triplet.specs.declared.places.Place.{Place}
use Rattle.vpf_triplet.specs.declared.places.Code.TheVariants as codes
use Rattle.vpf_triplet.specs.Kinds.{kind_text}
use Rattle.vpf_base.specs.Numbers.{number}
use Rattle.vpf_triplet.specs.Places.{theme_fault}
use Rattle.vpf_value.specs.Spelling.{IsCell}
use Rattle.vpf_value.specs.Values.{Value}
use Rattle.vpf_theme.specs.declared.layout.Form.{Form}
use Rattle.vpf_theme.specs.declared.layout.Form.TheVariants as forms
use Rattle.vpf_theme.specs.declared.layout.Layout.{Layout}
use Rattle.vpf_theme.specs.declared.layout.RowSize.{RowSize}
use Rattle.vpf_theme.specs.declared.entries.Extent.{Extent}
use Rattle.vpf_theme.specs.Entries.{Entry, is_marked, number_start, AreRows}
use Rattle.vpf_theme.specs.Layouts.{HasValues, directory_end, entry_bytes, entry_start, form_text, header_bytes, is_count, is_indexed, row_bytes, row_size_text}
use Rattle.vpf_theme.specs.Ordering.{value_cmp}
use Rattle.vpf_theme.specs.Spelling.{AreEntriesAt, HoldsRow, IsThemeHeader, IsNumberAt, LiesBehind, StandsAt, ValuesRise, row_width, row_numbers_text}

-- ---- the header

-- the header is whole, and the letter of this form stands in it
abbrev pub HasForm : Form → List ℕ → Type 0
HasForm form bytes = (header_bytes ≤ length bytes) × StandsAt bytes 12 (form_text form)

-- the letter of this kind stands in it, which can be indexed
abbrev pub HasKind : Kind → List ℕ → Type 0
HasKind kind bytes = (is_indexed kind ≡ true) × StandsAt bytes 13 (kind_text kind)

-- this count stands in it, which the kind allows
abbrev pub HasCount : Order → Kind → ℕ → List ℕ → Type 0
HasCount o kind n bytes = IsNumberAt o bytes 14 n × (is_count kind n ≡ true)

-- the letter of this type of row numbers stands in it
abbrev pub HasRowSize : RowSize → List ℕ → Type 0
HasRowSize size bytes = StandsAt bytes 18 (row_size_text size)

-- the first field of the header that is wrong
pub data HeaderFault (o : Order) (bytes : List ℕ) : Place → Type 0 where
  short : length bytes < header_bytes → HeaderFault o bytes (theme_fault 0 codes.ThemeCut)
  no_form : header_bytes ≤ length bytes → ((form : Form) → StandsAt bytes 12 (form_text form) → ⊥) → HeaderFault o bytes (theme_fault 12 codes.ThemeForm)
  no_kind : (form : Form) → HasForm form bytes → ((kind : Kind) → HasKind kind bytes → ⊥) → HeaderFault o bytes (theme_fault 13 codes.ThemeKind)
  no_count : (form : Form) (kind : Kind) (n : ℕ) → HasForm form bytes → HasKind kind bytes → IsNumberAt o bytes 14 n → is_count kind n ≡ false → HeaderFault o bytes (theme_fault 14 codes.ThemeCount)
  no_row_size : (form : Form) (kind : Kind) (n : ℕ) → HasForm form bytes → HasKind kind bytes → HasCount o kind n bytes → ((size : RowSize) → HasRowSize size bytes → ⊥) → HeaderFault o bytes (theme_fault 18 codes.ThemeRowtype)
  no_size : (l : Layout) (n : ℕ) → HasForm l.form bytes → HasKind l.kind bytes → HasCount o l.kind l.count bytes → HasRowSize l.row_size bytes → IsNumberAt o bytes 4 l.entries → IsNumberAt o bytes 0 n → n ≢ header_bytes → n ≢ directory_end l
      → HeaderFault o bytes (theme_fault 0 codes.ThemeSize)

-- ---- the rows of an entry

-- a row of the table
abbrev pub IsRowNumber : Layout → ℕ → Type 0
IsRowNumber l n = (1 ≤ n) × (n ≤ l.rows)

-- the first line that applies to the rows of an entry, which begins at an offset and has this extent
pub data RowsFault (l : Layout) (bytes : List ℕ) (at : ℕ) (e : Extent) : Form → Place → Type 0 where
  -- the one row of a list is none
  no_row : e.count ≡ 0 → (IsRowNumber l e.offset → ⊥) → RowsFault l bytes at e forms.List (theme_fault at codes.ThemeRow)
  -- the numbers of a list don't lie behind the directory
  no_list : e.count ≢ 0 → (LiesBehind l bytes e.offset (e.count * row_bytes l.row_size) → ⊥) → RowsFault l bytes at e forms.List (theme_fault at codes.ThemeSpan)
  -- they do, and the one that follows these rows is no row
  no_number : (rows : List ℕ) (n : ℕ) → length rows < e.count → LiesBehind l bytes e.offset (e.count * row_bytes l.row_size) → All (HoldsRow l.row_size) rows → AreRows l.rows rows → StandsAt bytes e.offset (row_numbers_text l.order l.row_size rows)
      → HoldsRow l.row_size n → StandsAt bytes (number_start l e.offset (length rows)) (number l.order (row_width l.row_size) n) → (IsRowNumber l n → ⊥) → RowsFault l bytes at e forms.List (theme_fault (number_start l e.offset (length rows)) codes.ThemeRow)
  -- a bitmap has another size, or doesn't lie behind the directory
  no_bitmap : (e.count ≡ (l.rows + 7) / 8 → LiesBehind l bytes e.offset e.count → ⊥) → RowsFault l bytes at e forms.Bitmap (theme_fault at codes.ThemeSpan)
  -- bit k, counted from 0, is the first behind the rows that is set
  padded : (k : ℕ) → e.count ≡ (l.rows + 7) / 8 → LiesBehind l bytes e.offset e.count → l.rows ≤ k → k < 8 * e.count → ((j : ℕ) → l.rows ≤ j → j < k → is_marked bytes e.offset j ≡ false) → is_marked bytes e.offset k ≡ true
      → RowsFault l bytes at e forms.Bitmap (theme_fault (e.offset + k / 8) codes.ThemePad)

-- ---- the file

-- a header, and fewer entries than it says to have
pub record BeginsEntries (o : Order) (l : Layout) (bytes : List ℕ) (es : List Entry) : Type 0 where
  pub order : l.order ≡ o
  pub values : HasValues l
  pub header : IsThemeHeader l bytes
  pub fewer : length es < l.entries
  pub entries : AreEntriesAt l bytes 0 es
  pub rise : l.sorted ≡ true → ValuesRise es

-- the value and the extent of entry i, counted from 0, stand in the file
pub record HasEntry (l : Layout) (bytes : List ℕ) (i : ℕ) (v : Value) (e : Extent) : Type 0 where
  pub spelling : List ℕ
  pub spelled : IsCell l.order l.kind (Fixed l.count) v spelling
  pub value : StandsAt bytes (entry_start l i) spelling
  pub offset : IsNumberAt l.order bytes (entry_start l i + length spelling) e.offset
  pub count : IsNumberAt l.order bytes (entry_start l i + length spelling + 4) e.count

-- the value is above that of the last entry
abbrev pub IsAbove : List Entry → Value → Type 0
IsAbove [] v = Unit {0}
IsAbove (e ∷ []) v = value_cmp e.value v ≡ Less
IsAbove (e ∷ f ∷ es) v = IsAbove (f ∷ es) v

-- the first fault of the bytes
pub data FirstThemeFault (o : Order) (bytes : List ℕ) : Place → Type 0 where
  in_header : (place : Place) → HeaderFault o bytes place → FirstThemeFault o bytes place
  -- the next entry isn't whole
  cut : (l : Layout) (es : List Entry) → BeginsEntries o l bytes es → length bytes < entry_start l (length es) + entry_bytes l → FirstThemeFault o bytes (theme_fault (entry_start l (length es)) codes.ThemeCut)
  -- it isn't above the one before in a sorted directory
  not_above : (l : Layout) (es : List Entry) (v : Value) (e : Extent) → BeginsEntries o l bytes es → HasEntry l bytes (length es) v e → l.sorted ≡ true → (IsAbove es v → ⊥) → FirstThemeFault o bytes (theme_fault (entry_start l (length es)) codes.ThemeSort)
  -- it does not list rows
  in_rows : (l : Layout) (es : List Entry) (v : Value) (e : Extent) (place : Place) → BeginsEntries o l bytes es → HasEntry l bytes (length es) v e → (l.sorted ≡ true → IsAbove es v) → RowsFault l bytes (entry_start l (length es)) e l.form place
      → FirstThemeFault o bytes place
