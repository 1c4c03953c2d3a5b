-- The files of feature tables and thematic indexes that were read are those that items name.
use Rattle.std.proofs.Common.{◌≡◌, ℕ, List, [], ◌∷◌, Option, Some, None}
use Rattle.std.specs.Prelude.{IfSome, option_and_then}
use Rattle.std.specs.List.{AllByRecursion}
use Rattle.vpf_source.specs.Files.{Files}
use Rattle.vpf_head.specs.Head.{Col}
use Rattle.vpf_table.specs.Grid.{Grid}
use Rattle.vpf_feature_files.specs.SchemaRows.Items.{own_file}
use Rattle.vpf_feature_files.specs.SchemaRows.Joins.{feature_items}
use Rattle.vpf_feature_files.specs.Schemas.{FeatureTable, Index, joins_of}
use Rattle.vpf_feature_writing.specs.FeatureReading.Laws.{IsOwnFile, IsReadGrid, IsReadTable, TablesAreRead}
use Rattle.vpf_feature_writing.proofs.feature_reading.SourceLemmas.{IsItemRead, IsSchemaOption, source_is, tables_read}
use Rattle.vpf_feature_writing.proofs.feature_reading.SourceTables.{AreNamed, IsNamedOption, ReadLaws, file_of}

-- the file of an index that is there
abbrev IsOwnIndex : Option Index → Type 0
IsOwnIndex index = IfSome index (λ (i : Index). IsOwnFile i.file)

-- a file that an item of a column names
theme_own : (theme : Option (List ℕ)) (file : List ℕ) → option_and_then own_file theme ≡ Some file → IsOwnFile file
theme_own None file e = absurd (cc e)
theme_own (Some item) file e = record { item = item; named = e }

index_own : (column : Col) (index : Option Index) → IsNamedOption (file_of column) index → IsOwnIndex index
index_own column None is = tt
index_own column (Some index) is = theme_own column.theme index.file is.file

indexes_own : (columns : List Col) (indexes : List (Option Index)) → AreNamed columns indexes → AllByRecursion IsOwnIndex indexes
indexes_own columns [] are = tt
indexes_own [] (index ∷ indexes) are = absurd are
indexes_own (column ∷ columns) (index ∷ indexes) are = (index_own column index are.0, indexes_own columns indexes are.1)

own_tables : (src : Files) (folder : List ℕ) (tables : List FeatureTable) → AllByRecursion (IsItemRead src folder) tables → AllByRecursion IsReadTable tables
own_tables src folder [] all = tt
own_tables src folder (table ∷ tables) all = (
  record {
    grid = all.0.read.grid.read;
    own = all.0.own;
    indexes = indexes_own table.grid.head.columns table.indexes all.0.read.indexes;
  },
  own_tables src folder tables all.1,
)

schema_read : (fcs : Option Grid) → IsSchemaOption fcs → IfSome fcs IsReadGrid
schema_read None is = tt
schema_read (Some grid) is = is.grid_is.read

pub tables_are_read : ReadLaws → TablesAreRead
tables_are_read laws folder S r =
    let source = source_is laws folder S r in
    record {
      schema = schema_read S.fcs source.schema;
      tables = own_tables r.held folder S.tables (tables_read r.held folder (feature_items (joins_of S.fcs)) S.tables source.items);
    }
