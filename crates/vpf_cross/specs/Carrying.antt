-- What two rows carry in the columns without a role, and the first of these columns in which they differ.
use Rattle.std.specs.Prelude.{◌≡◌, ℕ, ◌<◌, false, List, [], ◌∷◌, length, drop, Option, None, IfSome, slice_get}
use Rattle.vpf_value.specs.Values.{Value}
use Rattle.vpf_head.specs.Head.{Col}
use Rattle.vpf_table.specs.Grid.{Row, Grid}
use Rattle.vpf_findings.specs.Findings.{Sight, CellSeen, column_name, sight_of}
use Rattle.vpf_findings.specs.Firsts.{◌or◌, unless}
use Rattle.vpf_theme.specs.Ordering.{same_value}
use Rattle.vpf_prims.specs.Lists.{kth}
use Rattle.vpf_prims.specs.Reading.{carried_in, has_role}
use Rattle.vpf_prims.specs.Roles.{Role}
use Rattle.vpf_cross.specs.declared.carrying.Difference.{Difference as LentDifference}

-- a column in which two rows differ, by its name, and their two cells
pub record Difference : Type 0 where
  pub column : List ℕ
  pub here : Sight
  pub there : Sight

-- a difference of the code, the column's name as a list and the cells as they are seen
abbrev pub difference_of : LentDifference → Difference
difference_of d = record { column = column_name d.column; here = sight_of d.here; there = sight_of d.there }

-- the difference of two cells in a column, where they differ
abbrev pub cell_difference : Col → Value → Value → Option Difference
cell_difference c x y = unless (same_value x y) (record { column = c.name; here = CellSeen c.kind x; there = CellSeen c.kind y })

-- the first of some columns in which two rows of cells differ
abbrev pub first_difference : List Col → List Value → List Value → Option Difference
first_difference [] xs ys = None
first_difference (c ∷ cs) [] ys = None
first_difference (c ∷ cs) (x ∷ xs) [] = None
first_difference (c ∷ cs) (x ∷ xs) (y ∷ ys) = cell_difference c x y or first_difference cs xs ys

-- what row k of a table carries, counted from 1; a row that isn't there carries nothing
abbrev pub carried_at : List Role → Grid → ℕ → List Value
carried_at roles grid k = carried_in roles grid.head.columns (kth grid.rows k [])

-- no row carries anything in the columns from one place to another
abbrev pub CarryNone : List Role → List Col → (from to : ℕ) → Type 0
CarryNone roles columns from to = (row : Row) → length row ≡ length columns
    → carried_in roles (drop to columns) (drop to row) ≡ carried_in roles (drop from columns) (drop from row)

-- c is the place of the first column from one on that has no role
pub record IsNextCarried (roles : List Role) (columns : List Col) (from c : ℕ) : Type 0 where
  pub within : c < length columns
  pub between : CarryNone roles columns from c
  pub bare : IfSome (slice_get columns c) (λ column. has_role roles column ≡ false)
