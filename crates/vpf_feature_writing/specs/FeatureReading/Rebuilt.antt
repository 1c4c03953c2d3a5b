-- The features that are read of the files that are written: the same tables, and thematic indexes as they are built of their columns.
use Rattle.std.specs.Prelude.{ℕ, suc, List, [], ◌∷◌, map, slice_get, Option, Some, None}
use Rattle.vpf_head.specs.Head.{Col}
use Rattle.vpf_table.specs.Grid.{Grid}
use Rattle.vpf_theme.specs.Findings.{cells_of}
use Rattle.vpf_theme_build.specs.Building.{index_for}
use Rattle.vpf_feature_files.specs.Schemas.{FeatureTable, Index, Schema}

-- the index of a column, built anew
abbrev pub rebuilt_index : Grid → ℕ → Option Col → Option Index → Option Index
rebuilt_index grid c column None = None
rebuilt_index grid c None (Some index) = None
rebuilt_index grid c (Some column) (Some index) =
    Some (record { file = index.file; theme = index_for index.theme.form column index.theme.count (cells_of grid c) })

-- those of the columns of a table, from the column at this position on
abbrev pub rebuilt_indexes : Grid → ℕ → List (Option Index) → List (Option Index)
rebuilt_indexes grid c [] = []
rebuilt_indexes grid c (index ∷ indexes) = rebuilt_index grid c (slice_get grid.head.columns c) index ∷ rebuilt_indexes grid (suc c) indexes

-- a feature table with its indexes built anew
abbrev pub rebuilt_table : FeatureTable → FeatureTable
rebuilt_table table = record { name = table.name; grid = table.grid; indexes = rebuilt_indexes table.grid 0 table.indexes }

-- a schema with them
abbrev pub rebuilt : Schema → Schema
rebuilt S = record { fcs = S.fcs; tables = map rebuilt_table S.tables }
