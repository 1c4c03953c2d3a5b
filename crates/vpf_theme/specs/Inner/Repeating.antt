-- The first entry of a thematic index whose value an entry before it has, found among the values sorted.
use Rattle.std.specs.Prelude.{◌≡◌, ℕ, ◌+◌, ◌<◌, ◌≤◌, Bool, true, List, length, nat_lt, slice_index_or, take, Option, Some, None}
use Rattle.std.specs.Ordering.{nat_cmp, ordering_then}
use Rattle.std.specs.declared.cmp.Ordering.{Ordering}
use Rattle.std.specs.declared.cmp.Ordering.TheVariants.{Equal}
use Rattle.vpf_value.specs.declared.cells.Cell.TheVariants as cells
use Rattle.vpf_value.specs.Values.{view}
use Rattle.vpf_theme.specs.declared.repeating.PlacedCell.{PlacedCell}
use Rattle.vpf_theme.specs.declared.repeating.Repeat.{Repeat}
use Rattle.vpf_theme.specs.Ordering.{value_cmp}
use Rattle.vpf_theme.specs.Entries.{Entry}
use Rattle.vpf_theme.specs.Findings.{entry_at, entry_place}

-- ---- what is found

-- the first of the entries before entry i that have its value
abbrev pub place_before : List Entry → ℕ → Option ℕ
place_before entries i = entry_place (take i entries) (entry_at entries i).value

-- before entry n no entry has the value of one before it
abbrev pub NoneRepeats : List Entry → ℕ → Type 0
NoneRepeats entries n = (i : ℕ) → i < n → place_before entries i ≡ None

-- the first entry whose value an entry before it has, with the first of these
pub record IsRepeat (entries : List Entry) (r : Repeat) : Type 0 where
  pub within : r.at < length entries
  pub earlier : place_before entries r.at ≡ Some r.earlier
  pub first : NoneRepeats entries r.at

-- no entry has the value of one before it, or this is the first
abbrev pub TellsRepeat : List Entry → Option Repeat → Type 0
TellsRepeat entries None = NoneRepeats entries (length entries)
TellsRepeat entries (Some r) = IsRepeat entries r

-- the values of the entries are of one field: those that the order doesn't tell apart are equal
abbrev pub HaveOneField : List Entry → Type 0
HaveOneField entries = (i j : ℕ) → i < length entries → j < length entries
    → value_cmp (entry_at entries i).value (entry_at entries j).value ≡ Equal → (entry_at entries i).value ≡ (entry_at entries j).value

-- ---- among the values sorted

-- what is read past the last value
abbrev pub no_placed : PlacedCell
no_placed = record { cell = cells.Null; place = 0 }

-- value k, counted from 0
abbrev pub placed_at : List PlacedCell → ℕ → PlacedCell
placed_at placed k = slice_index_or placed k no_placed

-- the values of the first n entries, entry by entry
pub record HoldPlaced (entries : List Entry) (n : ℕ) (placed : List PlacedCell) : Type 0 where
  pub len : length placed ≡ n
  pub place : (k : ℕ) → k < n → (placed_at placed k).place ≡ k
  pub value : (k : ℕ) → k < n → view (placed_at placed k).cell ≡ (entry_at entries k).value

-- by value, and those of one value by place
abbrev pub placed_cmp : PlacedCell → PlacedCell → Ordering
placed_cmp a b = ordering_then (value_cmp (view a.cell) (view b.cell)) (nat_cmp a.place b.place)

-- the order doesn't tell value k from the next
abbrev pub AreLevel : List PlacedCell → ℕ → Type 0
AreLevel placed k = value_cmp (view (placed_at placed k).cell) (view (placed_at placed (k + 1)).cell) ≡ Equal

-- a place is before that of a repeat, if there is one
abbrev pub is_earlier : ℕ → Option Repeat → Bool
is_earlier place None = true
is_earlier place (Some r) = nat_lt place r.at

-- two neighbours among the first n that the order doesn't tell apart
pub record IsPair (placed : List PlacedCell) (n : ℕ) (r : Repeat) : Type 0 where
  pub k : ℕ
  pub within : k + 1 < n
  pub level : AreLevel placed k
  pub earlier : r.earlier ≡ (placed_at placed k).place
  pub at : r.at ≡ (placed_at placed (k + 1)).place

-- of such neighbours the two with the least place, or there are none
abbrev pub LeastPair : List PlacedCell → ℕ → Option Repeat → Type 0
LeastPair placed n None = (k : ℕ) → k + 1 < n → AreLevel placed k → ⊥
LeastPair placed n (Some r) = IsPair placed n r × ((k : ℕ) → k + 1 < n → AreLevel placed k → r.at ≤ (placed_at placed (k + 1)).place)
