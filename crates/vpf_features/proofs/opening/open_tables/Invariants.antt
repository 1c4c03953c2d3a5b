use Rattle.std.proofs.Common.{◌≡◌, ℕ, List, map, take}
use Rattle.vpf_feature_files.specs.Inner.Held.{AreTablesFiles}
use Rattle.vpf_feature_files.specs.Schemas.{FeatureTable}
use Rattle.vpf_features.specs.Inner.Views.{table_seen}
use Rattle.vpf_features.proofs.opening.open_tables.Given as goal

abbrev pub invariant-loop-table : goal.invariant-loop-table
invariant-loop-table l = (folder : List ℕ) (tables : List FeatureTable) → AreTablesFiles folder tables l.files
    → map table_seen l.views.items ≡ take l.table-index tables
