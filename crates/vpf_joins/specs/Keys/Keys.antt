-- The keys of joins (MIL-STD-2407, feature class schema table): which rows of tables a key joins.
use Rattle.std.specs.Prelude.{◌≡◌, ℕ, ◌+◌, Bool, true, false, bytes_eq, List, [], ◌∷◌, filter, map}
use Rattle.std.specs.List.Sorted.{IsPartitionPoint, IsSortedByKey}
use Rattle.std.specs.Ordering.{int_eq, is_le, is_lt}
use Rattle.std.specs.declared.cmp.Ordering.{Ordering}
use Rattle.vpf_value.specs.Values.{Value, TextOf, NumberOf, view}
use Rattle.vpf_theme.specs.Ordering.{value_cmp}
use Rattle.vpf_joins.specs.declared.keys.keyed.RowAt.{RowAt}
use Rattle.vpf_joins.specs.declared.keys.keyed.KeyedRow.{KeyedRow}

-- a cell can be a key: numbers and texts can
abbrev pub is_join_key : Value → Bool
is_join_key (NumberOf n) = true
is_join_key (TextOf text) = true
is_join_key v = false

-- two cells are one key: equal numbers, or texts of the same bytes; of other kinds no two are
abbrev pub same_join_key : Value → Value → Bool
same_join_key (NumberOf a) (NumberOf b) = int_eq a b
same_join_key (TextOf a) (TextOf b) = bytes_eq a b
same_join_key a b = false

-- the value in the key column of a row, and where the row is
pub record Keyed : Type 0 where
  pub key : Value
  pub at : RowAt

-- what clauses see of a row and its key
abbrev pub keyed_of : KeyedRow → Keyed
keyed_of row = record { key = view row.key; at = row.at }

-- the cells of the rows of a tile, of which the first has this number
abbrev pub keyed_from : (tile row : ℕ) → List Value → List Keyed
keyed_from tile row [] = []
keyed_from tile row (cell ∷ cells) = record { key = cell; at = record { tile = tile; row = row } } ∷ keyed_from tile (row + 1) cells

-- the key cells of all rows of a tile, whose numbers count from 1
abbrev pub keyed_in : ℕ → List Value → List Keyed
keyed_in tile cells = keyed_from tile 1 cells

-- the rows that have the key, in their order
abbrev pub rows_with : Value → List Keyed → List RowAt
rows_with key rows = map (λ (row : Keyed). row.at) (filter (λ (row : Keyed). same_join_key key row.key) rows)

-- how the key of a row stands to a key, by the order of values
abbrev pub standing : Value → KeyedRow → Ordering
standing key row = value_cmp (view row.key) key

-- no row has a key below that of the row before it
abbrev pub AreByKey : List KeyedRow → Type 0
AreByKey rows = IsSortedByKey (λ (row : KeyedRow). view row.key) value_cmp rows

-- the keys of the first so many rows are below a key, and those of the others are not
abbrev pub AreBelow : Value → List KeyedRow → ℕ → Type 0
AreBelow key rows n = IsPartitionPoint (λ (row : KeyedRow). is_lt (standing key row) ≡ true) (λ (row : KeyedRow). is_lt (standing key row) ≡ false) rows n

-- the keys of the first so many rows are not above a key, and those of the others are
abbrev pub AreUpTo : Value → List KeyedRow → ℕ → Type 0
AreUpTo key rows n = IsPartitionPoint (λ (row : KeyedRow). is_le (standing key row) ≡ true) (λ (row : KeyedRow). is_le (standing key row) ≡ false) rows n
