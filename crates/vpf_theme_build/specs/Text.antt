-- The bytes of a thematic index as it is built (after MIL-STD-2407, 5.4, indexes: thematic index encoding).
use Rattle.std.specs.Prelude.{ℕ, ◌+◌, ◌*◌, ◌/◌, ◌^◌, ◌==◌, nat_le, if◌then◌else◌, List, [], ◌∷◌, ◌++◌, length, map, take, replicate, slice_index, sum}
use Rattle.std.specs.Prelude.{codes as text}
use Rattle.std.specs.List.{list_any, range_with_len}
use Rattle.std.specs.Int.{w32}
use Rattle.vpf_triplet.specs.declared.kinds.Count.TheVariants.{Fixed}
use Rattle.vpf_triplet.specs.Kinds.{kind_text}
use Rattle.vpf_base.specs.Numbers.{number}
use Rattle.vpf_value.specs.Canonical.{spelled}
use Rattle.vpf_theme.specs.declared.layout.Form.{Form}
use Rattle.vpf_theme.specs.declared.layout.Form.TheVariants as forms
use Rattle.vpf_theme.specs.declared.layout.RowSize.{RowSize}
use Rattle.vpf_theme.specs.declared.layout.RowSize.TheVariants as sizes
use Rattle.vpf_theme.specs.declared.layout.Layout.{Layout}
use Rattle.vpf_theme.specs.Layouts.{directory_end, form_text, row_size_text}
use Rattle.vpf_theme.specs.Entries.{Entry}
use Rattle.vpf_theme.specs.Spelling.{row_numbers_text}

-- row numbers have 2 bytes where they are at most 32,767, and else 4
abbrev pub row_size_for : ℕ → RowSize
row_size_for n = if nat_le n 32767 then sizes.Short else sizes.Long

-- the first bytes of a name, so many, with spaces after it
abbrev pub spaced : ℕ → List ℕ → List ℕ
spaced n name = take n (name ++ replicate n 32)

-- bit b of the rows from `first` on: set where row first + b is among the rows
abbrev pub bit_of : List ℕ → ℕ → ℕ → ℕ
bit_of rows first b = if list_any (λ row. row == first + b) rows then 2 ^ b else 0

-- the bits of n rows from `first` on, the least first
abbrev pub row_bits : List ℕ → ℕ → ℕ → ℕ
row_bits rows first n = sum (map (bit_of rows first) (range_with_len 0 n))

-- byte j of a bitmap, which begins with row 8 * j + 1
abbrev pub bitmap_byte : List ℕ → ℕ → ℕ
bitmap_byte rows j = row_bits rows (8 * j + 1) 8

-- a bitmap of n rows
abbrev pub bitmap_text : ℕ → List ℕ → List ℕ
bitmap_text n rows = map (bitmap_byte rows) (range_with_len 0 ((n + 7) / 8))

-- the data of an entry; a list of one row has none
abbrev pub data_by : Form → Layout → List ℕ → List ℕ
data_by forms.List l rows = if length rows == 1 then [] else row_numbers_text l.order l.row_size rows
data_by forms.Bitmap l rows = bitmap_text l.rows rows

abbrev pub data_text : Layout → List ℕ → List ℕ
data_text l rows = data_by l.form l rows

-- the offset of an entry whose data begin at `at`: of a list of one row that row
abbrev pub offset_by : Form → ℕ → List ℕ → ℕ
offset_by forms.List at rows = if length rows == 1 then slice_index rows 0 else at
offset_by forms.Bitmap at rows = at

-- the count of an entry: of a list of one row 0
abbrev pub count_by : Form → Layout → List ℕ → ℕ
count_by forms.List l rows = if length rows == 1 then 0 else length rows
count_by forms.Bitmap l rows = (l.rows + 7) / 8

-- an entry whose data begin at `at`
abbrev pub entry_text : Layout → ℕ → Entry → List ℕ
entry_text l at e = spelled l.order l.kind (Fixed l.count) e.value ++ number l.order w32 (offset_by l.form at e.rows) ++ number l.order w32 (count_by l.form l e.rows)

-- the entries whose data begin at `at`, one after another
abbrev pub directory_text : Layout → ℕ → List Entry → List ℕ
directory_text l at [] = []
directory_text l at (e ∷ es) = entry_text l at e ++ directory_text l (at + length (data_text l e.rows)) es

-- the data of the entries, one after another
abbrev pub all_data : Layout → List Entry → List ℕ
all_data l [] = []
all_data l (e ∷ es) = data_text l e.rows ++ all_data l es

-- the header, with the names of the table's file and of the column
abbrev pub header_text : Layout → List ℕ → List ℕ → List ℕ
header_text l table column =
    number l.order w32 (directory_end l) ++ number l.order w32 l.entries ++ number l.order w32 l.rows ++ form_text l.form ++ kind_text l.kind ++ number l.order w32 l.count ++ row_size_text l.row_size
    ++ spaced 12 table ++ spaced 25 column ++ text "S" ++ (0 ∷ 0 ∷ 0 ∷ [])

-- an index of these entries
abbrev pub index_text : Layout → List ℕ → List ℕ → List Entry → List ℕ
index_text l table column es = header_text l table column ++ directory_text l (directory_end l) es ++ all_data l es

-- how many bytes it has
abbrev pub index_len : Layout → List Entry → ℕ
index_len l es = directory_end l + length (all_data l es)
