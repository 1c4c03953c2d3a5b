-- A thematic index agrees with a column.
use Rattle.std.specs.Prelude.{◌≡◌, ◌≢◌, ℕ, ◌+◌, ◌<◌, ◌≤◌, List, [], ◌∷◌, length, slice_get, if◌then◌else◌, Contains, Option, Some, None, Ok}
use Rattle.std.specs.List.Sorted.{IsStrictlyIncreasing}
use Rattle.vpf_triplet.specs.declared.kinds.Count.TheVariants.{Fixed}
use Rattle.vpf_value.specs.Values.{Value}
use Rattle.vpf_head.specs.Head.{Col}
use Rattle.vpf_table.specs.Grid.{Grid}
use Rattle.vpf_theme.specs.Ordering.{same_value}
use Rattle.vpf_theme.specs.Entries.{Theme, AreRows}
use Rattle.vpf_theme.specs.Findings.{cell_of, cells_of, entry_at}
use Rattle.vpf_theme.specs.Reading.{theme_of}

-- the index is one of this column: each row stands in the entry of its cell's value and in no other, whose rows rise
pub record AgreesWithColumn (t : Theme) (column : Col) (cells : List Value) : Type 0 where
  pub kind : t.kind ≡ column.kind
  pub count : column.count ≡ Fixed t.count
  pub rows : t.rows ≡ length cells
  -- the values of the entries differ
  pub differ : (i j : ℕ) → i < j → j < length t.entries → (entry_at t.entries i).value ≢ (entry_at t.entries j).value
  -- each row stands in the entry of its value
  pub stands : (row : ℕ) → 1 ≤ row → row ≤ length cells → (i : ℕ) × (i < length t.entries) × ((entry_at t.entries i).value ≡ cell_of cells row) × Contains (entry_at t.entries i).rows row
  -- and in no other: what an entry lists are rows that have its value
  pub only : (i row : ℕ) → i < length t.entries → Contains (entry_at t.entries i).rows row → (1 ≤ row) × (row ≤ length cells) × (cell_of cells row ≡ (entry_at t.entries i).value)
  pub rise : (i : ℕ) → i < length t.entries → IsStrictlyIncreasing (entry_at t.entries i).rows

-- the rows, counted from `at`, whose cell is the value
abbrev pub scan_from : ℕ → Value → List Value → List ℕ
scan_from at v [] = []
scan_from at v (cell ∷ cells) = if same_value cell v then at ∷ scan_from (at + 1) v cells else scan_from (at + 1) v cells

-- the plain scan: the numbers of the rows whose cell is the value, rising
abbrev pub scan_of : Value → List Value → List ℕ
scan_of v cells = scan_from 1 v cells

-- the rows that the index lists for a value, none where no entry has it
abbrev pub listed : Option (List ℕ) → List ℕ
listed None = []
listed (Some rows) = rows

-- each entry lists rows of the table
abbrev pub HaveRows : Theme → Type 0
HaveRows t = (i : ℕ) → i < length t.entries → AreRows t.rows (entry_at t.entries i).rows

-- the index agrees with the column at this position of a table
abbrev pub AgreesAt : Theme → Grid → ℕ → Type 0
AgreesAt t grid c = (column : Col) → slice_get grid.head.columns c ≡ Some column → AgreesWithColumn t column (cells_of grid c)

-- the bytes of a file are an index that agrees with the column at this position
abbrev pub ServesColumn : Grid → ℕ → List ℕ → Type 0
ServesColumn grid c bytes = (t : Theme) × (theme_of grid.head.order bytes ≡ Ok t) × AgreesAt t grid c
