-- What is known of the pieces of an index that is written.
use Rattle.std.specs.Prelude.{◌≡◌, ℕ, ◌+◌, ◌*◌, ◌/◌, ◌<◌, ◌≤◌, ◌^◌, ◌==◌, Bool, false, if◌then◌else◌, List, map, All}
use Rattle.std.specs.List.Sorted.{IsStrictlyIncreasing}
use Rattle.vpf_triplet.specs.declared.kinds.Count.TheVariants.{Fixed}
use Rattle.vpf_value.specs.Values.{view}
use Rattle.vpf_value.specs.Inner.Fitting.{FitsCell}
use Rattle.vpf_theme.specs.declared.layout.Form.{Form}
use Rattle.vpf_theme.specs.declared.layout.Form.TheVariants as forms
use Rattle.vpf_theme.specs.declared.layout.Layout.{Layout}
use Rattle.vpf_theme.specs.Layouts.{row_bytes}
use Rattle.vpf_theme_build.specs.declared.grouping.Spot.{Spot}
use Rattle.vpf_theme_build.specs.declared.grouping.Group.{Group}
use Rattle.vpf_theme_build.specs.Grouping.{cells_in, spot_row}
use Rattle.vpf_theme_build.specs.Text.{row_size_for}

-- an entry of so many rows is a list of one row
abbrev pub is_alone : Form → ℕ → Bool
is_alone forms.List n = n == 1
is_alone forms.Bitmap n = false

-- how many bytes the data of so many rows have
abbrev pub data_len_by : Form → Layout → ℕ → ℕ
data_len_by forms.List l n = if n == 1 then 0 else n * row_bytes l.row_size
data_len_by forms.Bitmap l n = (l.rows + 7) / 8

abbrev pub data_len : Layout → ℕ → ℕ
data_len l n = data_len_by l.form l n

-- the rows of an entry: rows of the table, rising
pub record AreEntryRows (l : Layout) (rows : List ℕ) : Type 0 where
  pub size : l.row_size ≡ row_size_for l.rows
  pub few : l.rows < 2 ^ 24
  pub inside : All (λ row. (1 ≤ row) × (row ≤ l.rows)) rows
  pub rise : IsStrictlyIncreasing rows

-- the cell fits the column
abbrev pub FitsSpot : Layout → Spot → Type 0
FitsSpot l s = FitsCell l.kind (Fixed l.count) (view s.cell)

-- the rows of each group are those of an entry
abbrev pub AreEntries : Layout → List Spot → List Group → Type 0
AreEntries l spots groups = All (λ (g : Group). AreEntryRows l (map spot_row (cells_in spots g))) groups
