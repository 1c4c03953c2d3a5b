-- How thematic indexes are spelled, apart from reading.
use Rattle.std.specs.Prelude.{◌≡◌, ◌⊎◌, ◌↔◌, ℕ, ◌+◌, ◌*◌, ◌/◌, ◌<◌, ◌≤◌, ◌^◌, true, List, [], ◌∷◌, ◌++◌, length, drop, All, Contains}
use Rattle.std.specs.Prelude.{codes as text}
use Rattle.std.specs.List.Sorted.{IsStrictlyIncreasing}
use Rattle.std.specs.Int.{Width, w16, w32}
use Rattle.std.specs.declared.cmp.Ordering.TheVariants.{Less}
use Rattle.vpf_base.specs.declared.orders.Order.{Order}
use Rattle.vpf_triplet.specs.declared.kinds.Count.TheVariants.{Fixed}
use Rattle.vpf_triplet.specs.Kinds.{kind_text}
use Rattle.vpf_base.specs.Numbers.{number}
use Rattle.vpf_value.specs.Values.{Value}
use Rattle.vpf_value.specs.Spelling.{IsCell}
use Rattle.vpf_theme.specs.declared.layout.Form.{Form}
use Rattle.vpf_theme.specs.declared.layout.Form.TheVariants as forms
use Rattle.vpf_theme.specs.declared.layout.RowSize.{RowSize}
use Rattle.vpf_theme.specs.declared.layout.RowSize.TheVariants as sizes
use Rattle.vpf_theme.specs.declared.layout.Layout.{Layout}
use Rattle.vpf_theme.specs.declared.entries.Extent.{Extent}
use Rattle.vpf_theme.specs.Layouts.{HasValues, directory_end, entry_start, form_text, header_bytes, row_bytes, row_size_text}
use Rattle.vpf_theme.specs.Ordering.{value_cmp}
use Rattle.vpf_theme.specs.Entries.{Entry, Theme, is_marked, AreRows}

-- the bytes stand in the file at an offset
abbrev pub StandsAt : List ℕ → ℕ → List ℕ → Type 0
StandsAt bytes at piece = (rest : List ℕ) × (drop at bytes ≡ piece ++ rest)

-- the number of 4 bytes stands there
abbrev pub IsNumberAt : Order → List ℕ → ℕ → ℕ → Type 0
IsNumberAt o bytes at n = (n < 2 ^ 32) × StandsAt bytes at (number o w32 n)

-- The fields of the header stand at their offsets. Its first field counts the header and the directory, or the header
-- alone. Names and unused bytes may be any.
pub record IsThemeHeader (l : Layout) (bytes : List ℕ) : Type 0 where
  pub long : header_bytes ≤ length bytes
  pub size : IsNumberAt l.order bytes 0 header_bytes ⊎ IsNumberAt l.order bytes 0 (directory_end l)
  pub entries : IsNumberAt l.order bytes 4 l.entries
  pub rows : IsNumberAt l.order bytes 8 l.rows
  pub form : StandsAt bytes 12 (form_text l.form)
  pub kind : StandsAt bytes 13 (kind_text l.kind)
  pub count : IsNumberAt l.order bytes 14 l.count
  pub row_size : StandsAt bytes 18 (row_size_text l.row_size)
  pub sorted : (l.sorted ≡ true) ↔ StandsAt bytes 56 (text "S")

-- a row number is an unsigned number of this width
abbrev pub row_width : RowSize → Width
row_width sizes.Short = w16
row_width sizes.Long = w32

-- row numbers of this type hold the number
abbrev pub HoldsRow : RowSize → ℕ → Type 0
HoldsRow sizes.Short n = n < 2 ^ 16
HoldsRow sizes.Long n = n < 2 ^ 32

-- row numbers, one after another
abbrev pub row_numbers_text : Order → RowSize → List ℕ → List ℕ
row_numbers_text o size [] = []
row_numbers_text o size (row ∷ rows) = number o (row_width size) row ++ row_numbers_text o size rows

-- so many bytes lie between the end of the directory and the end of the file
abbrev pub LiesBehind : Layout → List ℕ → ℕ → ℕ → Type 0
LiesBehind l bytes offset len = (directory_end l ≤ offset) × (offset + len ≤ length bytes)

-- the count says how many numbers there are, and they stand at the offset, behind the directory
pub record AreNumbers (l : Layout) (bytes : List ℕ) (e : Extent) (rows : List ℕ) : Type 0 where
  pub some : 0 < e.count
  pub count : e.count ≡ length rows
  pub behind : LiesBehind l bytes e.offset (e.count * row_bytes l.row_size)
  pub held : All (HoldsRow l.row_size) rows
  pub stand : StandsAt bytes e.offset (row_numbers_text l.order l.row_size rows)

-- a list of one row, which the offset itself is where the count is 0, or of so many numbers as the count says
abbrev pub IsList : Layout → List ℕ → Extent → List ℕ → Type 0
IsList l bytes e rows = ((e.count ≡ 0) × (rows ≡ e.offset ∷ [])) ⊎ AreNumbers l bytes e rows

-- A bitmap has a byte for each 8 rows, behind the directory. A bit is set exactly where its row is listed, so none past
-- the rows is.
pub record IsBitmap (l : Layout) (bytes : List ℕ) (e : Extent) (rows : List ℕ) : Type 0 where
  pub count : e.count ≡ (l.rows + 7) / 8
  pub behind : LiesBehind l bytes e.offset e.count
  pub rise : IsStrictlyIncreasing rows
  pub marks : (k : ℕ) → k < 8 * e.count → (is_marked bytes e.offset k ≡ true) ↔ Contains rows (k + 1)

-- the data of an entry list its rows
abbrev pub AreData : Form → Layout → List ℕ → Extent → List ℕ → Type 0
AreData forms.List l bytes e rows = IsList l bytes e rows
AreData forms.Bitmap l bytes e rows = IsBitmap l bytes e rows

-- An entry at place i, counted from 0: a spelling of its value, an offset and a count, whose data list rows of the table.
pub record IsEntryAt (l : Layout) (bytes : List ℕ) (i : ℕ) (e : Entry) : Type 0 where
  pub spelling : List ℕ
  pub extent : Extent
  pub spelled : IsCell l.order l.kind (Fixed l.count) e.value spelling
  pub value : StandsAt bytes (entry_start l i) spelling
  pub offset : IsNumberAt l.order bytes (entry_start l i + length spelling) extent.offset
  pub count : IsNumberAt l.order bytes (entry_start l i + length spelling + 4) extent.count
  pub inside : AreRows l.rows e.rows
  pub rows : AreData l.form l bytes extent e.rows

-- entry after entry, from place i on
abbrev pub AreEntriesAt : Layout → List ℕ → ℕ → List Entry → Type 0
AreEntriesAt l bytes i [] = Unit {0}
AreEntriesAt l bytes i (e ∷ es) = IsEntryAt l bytes i e × AreEntriesAt l bytes (i + 1) es

-- the value of the first entry is above this one
abbrev pub IsBelow : Value → List Entry → Type 0
IsBelow v [] = Unit {0}
IsBelow v (e ∷ es) = value_cmp v e.value ≡ Less

-- the value of each entry is above that of the one before
abbrev pub ValuesRise : List Entry → Type 0
ValuesRise [] = Unit {0}
ValuesRise (e ∷ es) = IsBelow e.value es × ValuesRise es

-- what the header of an index says, whose row numbers have this size
abbrev pub layout_from : Order → RowSize → Theme → Layout
layout_from o size t = record { order = o; form = t.form; kind = t.kind; count = t.count; row_size = size; rows = t.rows; entries = length t.entries; sorted = t.sorted }

-- The bytes are a file of this index: its header, and its entries, whose values rise where it is marked as sorted. Their
-- data may lie anywhere behind the directory, gaps and overlaps included.
pub record IsThematicIndex (o : Order) (t : Theme) (bytes : List ℕ) : Type 0 where
  pub row_size : RowSize
  pub values : HasValues (layout_from o row_size t)
  pub header : IsThemeHeader (layout_from o row_size t) bytes
  pub entries : AreEntriesAt (layout_from o row_size t) bytes 0 t.entries
  pub rise : t.sorted ≡ true → ValuesRise t.entries
