-- The thematic index that is built of a column.
use Rattle.std.specs.Prelude.{◌≡◌, ◌<◌, ◌≤◌, ◌^◌, ℕ, All, slice_get, Option, Some, None, nat_le, if◌then◌else◌, true, List, length, Result, Ok, Err}
use Rattle.vpf_base.specs.Limits.{most_bytes}
use Rattle.vpf_base.specs.Bytes.{IsBytes}
use Rattle.vpf_base.specs.Results.{Meets}
use Rattle.vpf_base.specs.declared.orders.Order.{Order}
use Rattle.vpf_triplet.specs.declared.kinds.Count.{Count}
use Rattle.vpf_triplet.specs.declared.kinds.Count.TheVariants.{Fixed, Star}
use Rattle.vpf_value.specs.Values.{Value}
use Rattle.vpf_value.specs.Inner.Fitting.{FitsCell}
use Rattle.vpf_head.specs.Head.{Col}
use Rattle.vpf_table.specs.Grid.{Grid}
use Rattle.vpf_table.specs.Reading.{table_of}
use Rattle.vpf_theme.specs.declared.layout.Form.{Form}
use Rattle.vpf_theme.specs.declared.layout.Layout.{Layout}
use Rattle.vpf_theme.specs.Layouts.{is_count, is_indexed}
use Rattle.vpf_theme.specs.Entries.{Theme}
use Rattle.vpf_theme.specs.Findings.{cells_of}
use Rattle.vpf_theme.specs.Agreeing.{AgreesAt, ServesColumn}
use Rattle.vpf_theme.specs.Reading.{theme_of}
use Rattle.vpf_theme_build.specs.declared.errors.BuildError.{BuildError}
use Rattle.vpf_theme_build.specs.declared.errors.BuildError.TheVariants as errors
use Rattle.vpf_theme_build.specs.Grouping.{entries_for, values_of}
use Rattle.vpf_theme_build.specs.Text.{index_len, index_text, row_size_for}

-- what the header of an index of these cells says
abbrev pub layout_for : Order → Form → Col → ℕ → List Value → Layout
layout_for o form column count cells = record { order = o; form = form; kind = column.kind; count = count; row_size = row_size_for (length cells); rows = length cells; entries = length (values_of cells); sorted = true }

-- the index of these cells
abbrev pub index_for : Form → Col → ℕ → List Value → Theme
index_for form column count cells = record { form = form; kind = column.kind; count = count; rows = length cells; sorted = true; entries = entries_for cells }

-- An index of these cells can be built: the column has this count and a kind that can be indexed, its cells fit it, they
-- are no more than a table has, and the index is no larger than a file.
pub record CanIndex (o : Order) (form : Form) (column : Col) (count : ℕ) (cells : List Value) : Type 0 where
  pub fixed : column.count ≡ Fixed count
  pub indexed : is_indexed column.kind ≡ true
  pub counted : is_count column.kind count ≡ true
  pub fits : All (FitsCell column.kind column.count) cells
  pub few : length cells < 2 ^ 24
  pub small : index_len (layout_for o form column count cells) (entries_for cells) ≤ most_bytes

-- the bytes of an index, unless they are too many
abbrev pub within_limit : ℕ → List ℕ → Result (List ℕ) BuildError
within_limit size bytes = if nat_le size most_bytes then Ok bytes else Err (errors.Limit size)

-- the bytes of the index of a column with this count
abbrev pub built_by : Order → List ℕ → Form → Col → List Value → Count → Result (List ℕ) BuildError
built_by o table form column cells (Fixed count) =
    let l = layout_for o form column count cells in
    if is_indexed column.kind then within_limit (index_len l (entries_for cells)) (index_text l table column.name (entries_for cells)) else Err errors.Kind
built_by o table form column cells Star = Err errors.Kind

-- why there are no bytes; of want of memory nothing is said
abbrev pub reason_in : BuildError → Option BuildError
reason_in errors.Kind = Some errors.Kind
reason_in (errors.Limit size) = Some (errors.Limit size)
reason_in errors.NoMemory = None

-- a call answered the bytes, or why there are none
abbrev pub Builds : {V : Type 0} → (V → List ℕ) → Result V BuildError → Result (List ℕ) BuildError → Type 0
Builds bytes result want = Meets bytes reason_in result want

-- the column at this position has this count and a kind that can be indexed
abbrev pub CanBuild : Grid → ℕ → ℕ → Type 0
CanBuild grid c count = (c < length grid.head.columns) × ((column : Col) → slice_get grid.head.columns c ≡ Some column → (column.count ≡ Fixed count) × (is_indexed column.kind ≡ true))

-- the bytes are read as the index of the cells of the column at this position
abbrev pub AreRead : Grid → ℕ → Form → List ℕ → Type 0
AreRead grid c form bytes = (column : Col) (count : ℕ) → slice_get grid.head.columns c ≡ Some column → column.count ≡ Fixed count → theme_of grid.head.order bytes ≡ Ok (index_for form column count (cells_of grid c))

-- an index that the bytes are read as agrees with the column at this position
abbrev pub AgreeAt : Grid → ℕ → List ℕ → Type 0
AgreeAt grid c bytes = (t : Theme) → theme_of grid.head.order bytes ≡ Ok t → AgreesAt t grid c

-- Of each column of a table, the index that is built agrees with it, and is no larger than a file.
abbrev pub BuiltIndexesServe : Type 0
BuiltIndexesServe = (bytes : List ℕ) (grid : Grid) (c : ℕ) (column : Col) (form : Form) (table index : List ℕ) → IsBytes bytes → table_of bytes ≡ Ok grid → slice_get grid.head.columns c ≡ Some column
    → built_by grid.head.order table form column (cells_of grid c) column.count ≡ Ok index → ServesColumn grid c index × (length index ≤ most_bytes)
