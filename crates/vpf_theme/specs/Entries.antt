-- What a thematic index says, and the entries of its directory.
use Rattle.std.specs.Prelude.{ℕ, ◌+◌, ◌-◌, ◌*◌, ◌/◌, ◌%◌, ◌≤◌, Bool, ◌==◌, if◌then◌else◌, List, [], ◌∷◌, All, length, drop, map, filter, slice_index, Option, Some, None, Ok, Err}
use Rattle.std.specs.List.{range_with_len}
use Rattle.std.specs.Int.{w16, w32, bit_at}
use Rattle.vpf_base.specs.declared.orders.Order.{Order}
use Rattle.vpf_triplet.specs.declared.kinds.Kind.{Kind}
use Rattle.vpf_triplet.specs.declared.kinds.Count.TheVariants.{Fixed}
use Rattle.vpf_base.specs.Numbers.{number_of}
use Rattle.vpf_value.specs.Values.{Value, Nothing}
use Rattle.vpf_value.specs.Reading.{CellAnswer, cell_from}
use Rattle.vpf_theme.specs.declared.layout.Form.{Form}
use Rattle.vpf_theme.specs.declared.layout.Form.TheVariants as forms
use Rattle.vpf_theme.specs.declared.layout.RowSize.{RowSize}
use Rattle.vpf_theme.specs.declared.layout.RowSize.TheVariants as sizes
use Rattle.vpf_theme.specs.declared.layout.Layout.{Layout}
use Rattle.vpf_theme.specs.declared.entries.Extent.{Extent}
use Rattle.vpf_theme.specs.Layouts.{entry_bytes, entry_start, row_bytes, u32_at, value_bytes}
use Rattle.vpf_theme.specs.Ordering.{same_value}

-- an entry: a value, and the numbers of the rows that it lists
pub record Entry : Type 0 where
  pub value : Value
  pub rows : List ℕ

-- a thematic index: its form, the column's kind and count, the table's number of rows, whether it is sorted, and its entries
pub record Theme : Type 0 where
  pub form : Form
  pub kind : Kind
  pub count : ℕ
  pub rows : ℕ
  pub sorted : Bool
  pub entries : List Entry

-- each is the number of a row of a table of n rows
abbrev pub AreRows : ℕ → List ℕ → Type 0
AreRows n rows = All (λ row. (1 ≤ row) × (row ≤ n)) rows

-- the rows of the first entry that has the value
abbrev pub found_in : Value → List Entry → Option (List ℕ)
found_in v [] = None
found_in v (e ∷ es) = if same_value e.value v then Some e.rows else found_in v es

-- the entry lies in the file as a whole
abbrev pub IsWhole : Layout → List ℕ → ℕ → Type 0
IsWhole l bytes i = entry_start l i + entry_bytes l ≤ length bytes

-- the value of a cell that is read
abbrev pub value_read : CellAnswer → Value
value_read (Ok r) = r.0
value_read (Err code) = Nothing

-- the value of entry i, counted from 0
unfoldable pub value_of : Layout → List ℕ → ℕ → Value
value_of l bytes i = value_read (cell_from l.order l.kind (Fixed l.count) (drop (entry_start l i) bytes))

-- the offset and the count of entry i, which follow its value
unfoldable pub extent_of : Layout → List ℕ → ℕ → Extent
extent_of l bytes i = record { offset = u32_at l.order bytes (entry_start l i + value_bytes l); count = u32_at l.order bytes (entry_start l i + value_bytes l + 4) }

-- the number of a type of row numbers that the first bytes spell
abbrev pub row_number : Order → RowSize → List ℕ → ℕ
row_number o sizes.Short bytes = number_of o w16 bytes
row_number o sizes.Long bytes = number_of o w32 bytes

-- where number k of a list, counted from 0, stands
abbrev pub number_start : Layout → ℕ → ℕ → ℕ
number_start l offset k = offset + k * row_bytes l.row_size

-- number k of a list
unfoldable pub number_at : Layout → List ℕ → ℕ → ℕ → ℕ
number_at l bytes offset k = row_number l.order l.row_size (drop (number_start l offset k) bytes)

-- The rows of a list. A count of 0 says that the offset is itself the one row.
abbrev pub listed_rows : Layout → List ℕ → Extent → List ℕ
listed_rows l bytes e = if e.count == 0 then e.offset ∷ [] else map (number_at l bytes e.offset) (range_with_len 0 e.count)

-- bit k of a bitmap, counted from 0 with the least bit of each byte first
unfoldable pub is_marked : List ℕ → ℕ → ℕ → Bool
is_marked bytes offset k = bit_at (slice_index bytes (offset + k / 8)) (k % 8) == 1

-- the rows of a bitmap: row k is bit k - 1
abbrev pub marked_rows : Layout → List ℕ → Extent → List ℕ
marked_rows l bytes e = filter (λ row. is_marked bytes e.offset (row - 1)) (range_with_len 1 l.rows)

-- the rows of an entry
abbrev pub rows_by : Form → Layout → List ℕ → Extent → List ℕ
rows_by forms.List l bytes e = listed_rows l bytes e
rows_by forms.Bitmap l bytes e = marked_rows l bytes e

-- entry i, counted from 0
unfoldable pub entry_of : Layout → List ℕ → ℕ → Entry
entry_of l bytes i = record { value = value_of l bytes i; rows = rows_by l.form l bytes (extent_of l bytes i) }

-- what a layout and the bytes behind it say
abbrev pub theme_in : Layout → List ℕ → Theme
theme_in l bytes = record { form = l.form; kind = l.kind; count = l.count; rows = l.rows; sorted = l.sorted; entries = map (entry_of l bytes) (range_with_len 0 l.entries) }
