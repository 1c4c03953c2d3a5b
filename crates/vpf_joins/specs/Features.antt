-- Features, with the primitives that are joined to them, and the marks of their rows.
use Rattle.std.specs.Prelude.{◌≡◌, ℕ, ◌+◌, ◌<◌, ◌==◌, Bool, false, List, length, map, slice_index_or}
use Rattle.std.specs.List.{list_any}
use Rattle.vpf_table.specs.Grid.{Grid}
use Rattle.vpf_prims.specs.Coverages.{CoverageTables}
use Rattle.vpf_feature_files.specs.SchemaRows.Joins.{SchemaJoin}
use Rattle.vpf_joins.specs.declared.features.Feature.{Feature}
use Rattle.vpf_joins.specs.declared.features.Primitive.{Primitive}
use Rattle.vpf_joins.specs.Joining.{joined_at, once_rising}

-- a feature: its row, and what is joined to it
pub record FeatureJoined : Type 0 where
  pub row : ℕ
  pub primitives : List Primitive

-- a feature of the code
abbrev pub feature_seen : Feature → FeatureJoined
feature_seen f = record { row = f.row; primitives = f.primitives.items }

-- the feature in row k of a table
abbrev pub feature_in : CoverageTables → List SchemaJoin → Grid → ℕ → FeatureJoined
feature_in c joins grid k = record { row = k; primitives = joined_at c joins grid k }

-- the features in rows, each once, rising
abbrev pub features_in : CoverageTables → List SchemaJoin → Grid → (rows : List ℕ) → List FeatureJoined
features_in c joins grid rows = map (feature_in c joins grid) (once_rising (length grid.rows) rows)

-- marks tell of each number from 1 to n whether it stands in a list
pub record AreMarked (n : ℕ) (rows : List ℕ) (marks : List Bool) : Type 0 where
  pub all : length marks ≡ n
  pub tell : (k : ℕ) → k < n → slice_index_or marks k false ≡ list_any (λ row. row == k + 1) rows
