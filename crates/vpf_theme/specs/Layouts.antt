-- The header of a thematic index (after MIL-STD-2407, 5.4, indexes: thematic index encoding), and where its entries stand.
use Rattle.std.specs.Prelude.{ℕ, ◌+◌, ◌*◌, Bool, true, false, ◌==◌, ◌&&◌, ◌||◌, nat_le, nat_lt, if◌then◌else◌, List, [], ◌∷◌, length, drop, find, slice_index, Option, Some, None, unwrap_or, Result, Ok, Err, IsTrue, bytes_eq}
use Rattle.std.specs.Prelude.{codes as text}
use Rattle.std.specs.Int.{w32}
use Rattle.vpf_base.specs.Limits.{most_values}
use Rattle.vpf_base.specs.Results.{◌>>=◌}
use Rattle.vpf_base.specs.declared.orders.Order.{Order}
use Rattle.vpf_triplet.specs.declared.kinds.Kind.{Kind}
use Rattle.vpf_triplet.specs.declared.kinds.Kind.TheVariants as kinds
use Rattle.vpf_triplet.specs.declared.kinds.Count.TheVariants.{Fixed}
use Rattle.vpf_triplet.specs.declared.places.Place.{Place}
use Rattle.vpf_triplet.specs.declared.places.Code.{Code}
use Rattle.vpf_triplet.specs.declared.places.Code.TheVariants as codes
use Rattle.vpf_triplet.specs.Kinds.{allows, kind_text}
use Rattle.vpf_base.specs.Numbers.{number_of}
use Rattle.vpf_triplet.specs.Places.{theme_fault}
use Rattle.vpf_value.specs.Widths.{cell_width}
use Rattle.vpf_theme.specs.declared.layout.Form.{Form}
use Rattle.vpf_theme.specs.declared.layout.Form.TheVariants as forms
use Rattle.vpf_theme.specs.declared.layout.RowSize.{RowSize}
use Rattle.vpf_theme.specs.declared.layout.RowSize.TheVariants as sizes
use Rattle.vpf_theme.specs.declared.layout.Layout.{Layout}

-- the bytes of the header, behind which the directory begins
abbrev pub header_bytes : ℕ
header_bytes = 60

-- the letter of a form
abbrev pub form_text : Form → List ℕ
form_text forms.List = text "T"
form_text forms.Bitmap = text "B"

-- the form whose letter the byte is
abbrev pub form_in : ℕ → Option Form
form_in b = find (λ form. bytes_eq (b ∷ []) (form_text form)) (forms.List ∷ forms.Bitmap ∷ [])

-- the kinds that can be indexed
abbrev pub indexed_kinds : List Kind
indexed_kinds = kinds.T ∷ kinds.L ∷ kinds.M ∷ kinds.N ∷ kinds.F ∷ kinds.R ∷ kinds.S ∷ kinds.I ∷ kinds.D ∷ []

-- the kind is one of them
abbrev pub is_indexed : Kind → Bool
is_indexed kinds.X = false
is_indexed kinds.K = false
is_indexed kinds.C = false
is_indexed kinds.B = false
is_indexed kinds.Z = false
is_indexed kinds.Y = false
is_indexed kind = true

-- the kind that can be indexed whose letter the byte is
abbrev pub indexed_kind_of : ℕ → Option Kind
indexed_kind_of b = find (λ kind. bytes_eq (b ∷ []) (kind_text kind)) indexed_kinds

-- a count that the kind allows, from 1 to the most
abbrev pub is_count : Kind → ℕ → Bool
is_count kind n = nat_le 1 n && nat_le n most_values && allows kind (Fixed n)

-- how many bytes a row number has
abbrev pub row_bytes : RowSize → ℕ
row_bytes sizes.Short = 2
row_bytes sizes.Long = 4

-- the letter of a type of row numbers
abbrev pub row_size_text : RowSize → List ℕ
row_size_text sizes.Short = text "S"
row_size_text sizes.Long = text "I"

-- the type of row numbers whose letter the byte is
abbrev pub row_size_of : ℕ → Option RowSize
row_size_of b = find (λ size. bytes_eq (b ∷ []) (row_size_text size)) (sizes.Short ∷ sizes.Long ∷ [])

-- the byte says that the directory is sorted
abbrev pub is_sorted_mark : ℕ → Bool
is_sorted_mark b = bytes_eq (b ∷ []) (text "S")

-- the kind can be indexed, and the count is one of it
abbrev pub HasValues : Layout → Type 0
HasValues l = IsTrue (is_indexed l.kind) × IsTrue (is_count l.kind l.count)

-- how many bytes the value of an entry has
abbrev pub value_bytes : Layout → ℕ
value_bytes l = unwrap_or (cell_width l.kind (Fixed l.count)) 0

-- how many bytes an entry has: its value, an offset and a count
abbrev pub entry_bytes : Layout → ℕ
entry_bytes l = value_bytes l + 8

-- where entry i, counted from 0, begins
abbrev pub entry_start : Layout → ℕ → ℕ
entry_start l i = header_bytes + i * entry_bytes l

-- where the directory ends
abbrev pub directory_end : Layout → ℕ
directory_end l = entry_start l l.entries

-- the unsigned number of 4 bytes that stands at an offset
abbrev pub u32_at : Order → List ℕ → ℕ → ℕ
u32_at o bytes at = number_of o w32 (drop at bytes)

-- what is asked for at an offset, or the fault there
abbrev pub asked : {X : Type 0} → ℕ → Code → Option X → Result X Place
asked at code None = Err (theme_fault at code)
asked at code (Some x) = Ok x

-- the count of a kind
abbrev pub allowed_count : Kind → ℕ → Option ℕ
allowed_count kind n = if is_count kind n then Some n else None

-- what the fields of a header say, or the first that says nothing; all but the first field, which is looked at after them
unfoldable pub header_fields : Order → List ℕ → Result Layout Place
header_fields o bytes = do
  form ← asked 12 codes.ThemeForm (form_in (slice_index bytes 12))
  kind ← asked 13 codes.ThemeKind (indexed_kind_of (slice_index bytes 13))
  count ← asked 14 codes.ThemeCount (allowed_count kind (u32_at o bytes 14))
  row_size ← asked 18 codes.ThemeRowtype (row_size_of (slice_index bytes 18))
  Ok (record { order = o; form = form; kind = kind; count = count; row_size = row_size; rows = u32_at o bytes 8; entries = u32_at o bytes 4; sorted = is_sorted_mark (slice_index bytes 56) })

-- the first field counts the header and the directory, or the header alone
abbrev pub is_size : Layout → ℕ → Bool
is_size l n = (n == header_bytes) || (n == directory_end l)

-- the layout, where the first field is its size
abbrev pub sized_layout : ℕ → Layout → Result Layout Place
sized_layout n l = if is_size l n then Ok l else Err (theme_fault 0 codes.ThemeSize)

-- the header of an index, or the first fault in it
unfoldable pub layout_of : Order → List ℕ → Result Layout Place
layout_of o bytes = if nat_lt (length bytes) header_bytes then Err (theme_fault 0 codes.ThemeCut) else (header_fields o bytes >>= λ l. sized_layout (u32_at o bytes 0) l)
