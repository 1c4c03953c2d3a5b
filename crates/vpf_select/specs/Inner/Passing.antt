-- The rows that an index lists, looked for among those that meet a test.
use Rattle.std.specs.Prelude.{ℕ, ◌-◌, Bool, false, not, List, map, find, slice_index_or, Option}
use Rattle.vpf_value.specs.Values.{Value}
use Rattle.vpf_theme.specs.Ordering.{same_value}

-- whether each cell has the value
abbrev pub met_by : Value → List Value → List Bool
met_by v cells = map (λ cell. same_value cell v) cells

-- the first of the rows that doesn't meet the test
abbrev pub first_unmet : List Bool → List ℕ → Option ℕ
first_unmet met rows = find (λ row. not (slice_index_or met (row - 1) false)) rows
