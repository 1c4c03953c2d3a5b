-- The entries of a column: each value once, in their order, with the rows that have it.
use Rattle.std.specs.Prelude.{◌≡◌, ◌⊎◌, ℕ, ◌+◌, ◌<◌, ◌≤◌, List, [], ◌∷◌, length, map, slice_index, slice_index_or, slice_range, if◌then◌else◌, slice_get, Some, All, Bool, true}
use Rattle.std.specs.List.Sorted.{IsPermutation, IsSortedBy, IsStableBy}
use Rattle.std.specs.Ordering.{is_lt}
use Rattle.vpf_value.specs.Inner.Fitting.{FitsCell}
use Rattle.vpf_head.specs.Head.{Col}
use Rattle.vpf_table.specs.Grid.{Grid}
use Rattle.std.specs.declared.cmp.Ordering.{Ordering}
use Rattle.std.specs.declared.cmp.Ordering.TheVariants.{Less, Equal, Greater}
use Rattle.vpf_value.specs.Values.{Value, Nothing, view}
use Rattle.vpf_theme.specs.Ordering.{same_value, value_cmp}
use Rattle.vpf_theme.specs.Layouts.{is_indexed}
use Rattle.vpf_theme.specs.Entries.{Entry}
use Rattle.vpf_theme.specs.Agreeing.{scan_of}
use Rattle.vpf_theme_build.specs.declared.grouping.Spot.{Spot}
use Rattle.vpf_theme_build.specs.declared.grouping.Group.{Group}

-- v and the values u, us, by how v and u are ordered; `rest` has v among us
abbrev pub placed_value : Ordering → Value → Value → List Value → List Value → List Value
placed_value Less v u us rest = v ∷ u ∷ us
placed_value Equal v u us rest = u ∷ us
placed_value Greater v u us rest = u ∷ rest

-- v among values that rise, once
abbrev pub with_value : Value → List Value → List Value
with_value v [] = v ∷ []
with_value v (u ∷ us) = placed_value (value_cmp v u) v u us (with_value v us)

-- the values of cells, each once, rising
abbrev pub values_of : List Value → List Value
values_of [] = []
values_of (cell ∷ cells) = with_value cell (values_of cells)

-- the entry of a value: its rows are those of the plain scan
abbrev pub entry_for : List Value → Value → Entry
entry_for cells v = record { value = v; rows = scan_of v cells }

-- an entry for each value
abbrev pub entries_for : List Value → List Entry
entries_for cells = map (entry_for cells) (values_of cells)

-- a cell's value, and the number of its row
abbrev pub Spotted : Type 0
Spotted = Value × ℕ

abbrev pub seen : Spot → Spotted
seen s = (view s.cell, s.row)

-- the row of a cell
abbrev pub spot_row : Spot → ℕ
spot_row s = s.row

-- values that the order does not tell apart are equal
abbrev pub AreOfOneField : List Value → Type 0
AreOfOneField vs = (i j : ℕ) → i < length vs → j < length vs → value_cmp (slice_index_or vs i Nothing) (slice_index_or vs j Nothing) ≡ Equal → slice_index_or vs i Nothing ≡ slice_index_or vs j Nothing

-- the cells from a row on, with their rows
abbrev pub numbered_cells : ℕ → List Value → List Spotted
numbered_cells at [] = []
numbered_cells at (v ∷ vs) = (v, at) ∷ numbered_cells (at + 1) vs

-- a cell joined to the entries of the cells behind it
abbrev pub joined_spot : Spotted → List Entry → List Entry
joined_spot p [] = record { value = p.0; rows = p.1 ∷ [] } ∷ []
joined_spot p (e ∷ es) = if same_value p.0 e.value then record { value = p.0; rows = p.1 ∷ e.rows } ∷ es else record { value = p.0; rows = p.1 ∷ [] } ∷ e ∷ es

-- the entries of cells of which equal ones stand side by side
abbrev pub grouped : List Spotted → List Entry
grouped [] = []
grouped (p ∷ ps) = joined_spot p (grouped ps)

-- what is read past the last cell
abbrev pub no_spot : Spotted
no_spot = (Nothing, 0)

-- the entry of cells of one value
abbrev pub group_entry : List Spot → Entry
group_entry spots = record { value = (slice_index_or (map seen spots) 0 no_spot).0; rows = map spot_row spots }

-- the cells of a group
abbrev pub cells_in : List Spot → Group → List Spot
cells_in spots g = slice_range spots g.start g.end

-- the entry of a group
abbrev pub entry_in : List Spot → Group → Entry
entry_in spots g = group_entry (cells_in spots g)

-- a group of some cells
abbrev pub IsGroup : List Spot → Group → Type 0
IsGroup spots g = (g.start < g.end) × (g.end ≤ length spots)

-- the rows below `from` come first, so many
pub record IsNext (rows : List ℕ) (next from : ℕ) : Type 0 where
  pub inside : next ≤ length rows
  pub below : (i : ℕ) → i < next → slice_index rows i < from
  pub above : (i : ℕ) → next ≤ i → i < length rows → from ≤ slice_index rows i

-- the cells fit the column
abbrev pub FitColumn : Grid → ℕ → List Spot → Type 0
FitColumn grid c spots = (column : Col) → slice_get grid.head.columns c ≡ Some column → All (λ (s : Spot). FitsCell column.kind column.count (view s.cell)) spots

-- the value of one cell is below that of the other
abbrev pub is_below : Spot → Spot → Bool
is_below a b = is_lt (value_cmp (view a.cell) (view b.cell))

-- the same cells by their values, and those of one value in the order that they had
pub record Sorts (old new : List Spot) : Type 0 where
  pub same : IsPermutation old new
  pub len : length new ≡ length old
  pub sorted : IsSortedBy is_below new
  pub stable : IsStableBy is_below old new

-- the value of a cell
abbrev pub value_at : List Spot → ℕ → Spot → Value
value_at spots k d = view (slice_index_or spots k d).cell

-- a group ends behind cell i: it is the last, or the next has another value
abbrev pub EndsAt : List Spot → ℕ → Type 0
EndsAt spots i = (i + 1 ≡ length spots) ⊎ ((d : Spot) → value_at spots i d ≡ value_at spots (i + 1) d → ⊥)

-- no group ends there
abbrev pub GoesOn : List Spot → ℕ → Type 0
GoesOn spots i = (i + 1 < length spots) × ((d : Spot) → value_at spots i d ≡ value_at spots (i + 1) d)

-- the column at this position has a kind that can be indexed
abbrev pub IsIndexable : Grid → ℕ → Type 0
IsIndexable grid c = (column : Col) → slice_get grid.head.columns c ≡ Some column → is_indexed column.kind ≡ true
