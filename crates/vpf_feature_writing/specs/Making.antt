-- The files of features that are written: the schema table and the feature tables as they are, in their canonical spelling, and their thematic indexes
-- built anew, each in the form that it has. The first file that passes a limit ends it.
use Rattle.std.specs.Prelude.{ℕ, suc, List, [], ◌∷◌, ◌++◌, Option, Some, None, slice_get, Result, Ok, Err, codes}
use Rattle.vpf_source.specs.declared.file.File.{File}
use Rattle.vpf_head.specs.Head.{Col}
use Rattle.vpf_table.specs.declared.limit.Bound.TheVariants as bounds
use Rattle.vpf_table.specs.Grid.{Grid}
use Rattle.vpf_theme.specs.Findings.{cells_of}
use Rattle.vpf_theme_build.specs.declared.errors.BuildError.{BuildError}
use Rattle.vpf_theme_build.specs.declared.errors.BuildError.TheVariants as builds
use Rattle.vpf_theme_build.specs.Building.{built_by}
use Rattle.vpf_library_files.specs.Loading.Loading.{loaded_file, within}
use Rattle.vpf_library_files.specs.declared.table_files.errors.AddError.{AddError}
use Rattle.vpf_library_files.specs.declared.table_files.errors.AddError.TheVariants as errors
use Rattle.vpf_library_files.specs.TableFiles.Adding.{made_of_tables, table_within}
use Rattle.vpf_feature_files.specs.Schemas.{FeatureTable, Index, Schema}

-- files that are made, or the first limit that one passes
abbrev pub Made : Type 0
Made = Result (List File) AddError

-- files, and others behind them
abbrev pub then_files : List File → Made → Made
then_files files (Ok others) = Ok (files ++ others)
then_files files (Err error) = Err error

-- some files and then others; the first limit ends it
abbrev pub made_then : Made → Made → Made
made_then (Ok files) later = then_files files later
made_then (Err error) later = Err error

-- a table in a folder, and its variable-length index where its rows vary
abbrev pub table_made : (folder name : List ℕ) → Grid → Made
table_made folder name grid = made_of_tables (table_within folder name grid ∷ [])

-- the file of an index that is built; of a column that can't be indexed there is none
abbrev pub index_made_by : (name : List ℕ) → Result (List ℕ) BuildError → Made
index_made_by name (Ok bytes) = Ok (loaded_file name bytes ∷ [])
index_made_by name (Err (builds.Limit size)) = Err (errors.Limit name (record { what = bounds.File; found = size }))
index_made_by name (Err error) = Ok []

-- the index of this column, where there is one, built anew in its form
abbrev pub index_made : (folder : List ℕ) → FeatureTable → ℕ → Option Col → Option Index → Made
index_made folder table c column None = Ok []
index_made folder table c None (Some index) = Ok []
index_made folder table c (Some column) (Some index) =
    index_made_by (within folder index.file) (built_by table.grid.head.order table.name index.theme.form column (cells_of table.grid c) column.count)

-- the indexes of the columns of a table, from the column at this position on
abbrev pub indexes_made : (folder : List ℕ) → FeatureTable → ℕ → List (Option Index) → Made
indexes_made folder table c [] = Ok []
indexes_made folder table c (index ∷ indexes) =
    made_then (index_made folder table c (slice_get table.grid.head.columns c) index) (indexes_made folder table (suc c) indexes)

-- a feature table, and then its indexes
abbrev pub feature_table_made : (folder : List ℕ) → FeatureTable → Made
feature_table_made folder table = made_then (table_made folder table.name table.grid) (indexes_made folder table 0 table.indexes)

-- feature tables, one after another
abbrev pub feature_tables_made : (folder : List ℕ) → List FeatureTable → Made
feature_tables_made folder [] = Ok []
feature_tables_made folder (table ∷ tables) = made_then (feature_table_made folder table) (feature_tables_made folder tables)

-- the files under a schema table; where there is none, none are made
abbrev pub schema_made : (folder : List ℕ) → Option Grid → List FeatureTable → Made
schema_made folder None tables = Ok []
schema_made folder (Some fcs) tables = made_then (table_made folder (codes "fcs") fcs) (feature_tables_made folder tables)

-- the files of the features of a schema, in this folder
abbrev pub features_made : (folder : List ℕ) → Schema → Made
features_made folder S = schema_made folder S.fcs S.tables
