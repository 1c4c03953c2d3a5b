-- That files hold a schema, by the grammar of tables and indexes alone.
use Rattle.std.specs.Prelude.{◌≡◌, ℕ, false, List, [], ◌∷◌, Option, Some, None, Ok}
use Rattle.vpf_source.specs.declared.file.File.{File}
use Rattle.vpf_base.specs.declared.orders.Order.{Order}
use Rattle.vpf_head.specs.Head.{varies_in}
use Rattle.vpf_table.specs.Grid.{Grid}
use Rattle.vpf_table.specs.Reading.{table_of}
use Rattle.vpf_theme.specs.Reading.{theme_of}
use Rattle.vpf_library_files.specs.Loading.Holding.{AreFilesOf}
use Rattle.vpf_library_files.specs.Loading.Loading.{within}
use Rattle.vpf_feature_files.specs.SchemaRows.Joins.{schema_finding}
use Rattle.vpf_feature_files.specs.declared.files.FeatureFiles.{FeatureFiles}
use Rattle.vpf_feature_files.specs.declared.files.TableFiles.{TableFiles}
use Rattle.vpf_feature_files.specs.Reading.{schema_name}
use Rattle.vpf_feature_files.specs.Schemas.{FeatureTable, Index, Schema}

-- the file is the schema table: its rows don't vary, and its columns are there
pub record IsSchemaFile (folder : List ℕ) (grid : Grid) (file : File) : Type 0 where
  pub name : file.name ≡ schema_name folder
  pub opened : table_of file.bytes ≡ Ok grid
  pub fixed : varies_in grid.head.columns ≡ false
  pub columns : schema_finding grid ≡ None

-- the same of one that may be absent
abbrev pub IsSchemaFileOption : (folder : List ℕ) → Option Grid → Option File → Type 0
IsSchemaFileOption folder None None = Unit {0}
IsSchemaFileOption folder (Some grid) (Some file) = IsSchemaFile folder grid file
IsSchemaFileOption folder fcs file = ⊥

-- the file, which is named in the folder of the coverage, is a thematic index of a table of this order
pub record IsIndexFile (order : Order) (index : Index) (file : File) : Type 0 where
  pub name : file.name ≡ index.file
  pub opened : theme_of order file.bytes ≡ Ok index.theme

-- the same of one that may be absent
abbrev pub IsIndexFileOption : Order → Option Index → Option File → Type 0
IsIndexFileOption order None None = Unit {0}
IsIndexFileOption order (Some index) (Some file) = IsIndexFile order index file
IsIndexFileOption order index file = ⊥

-- the files are those of all columns
abbrev pub AreIndexFiles : Order → List (Option Index) → List (Option File) → Type 0
AreIndexFiles order [] [] = Unit {0}
AreIndexFiles order (index ∷ indexes) (file ∷ files) = IsIndexFileOption order index file × AreIndexFiles order indexes files
AreIndexFiles order indexes files = ⊥

-- these are the files of a feature table
pub record AreTableFiles (folder : List ℕ) (table : FeatureTable) (files : TableFiles) : Type 0 where
  pub name : files.name ≡ table.name
  pub own : AreFilesOf (within folder table.name) table.grid files.table
  pub indexes : AreIndexFiles table.grid.head.order table.indexes files.indexes.items

-- those of all feature tables
abbrev pub AreTablesFiles : (folder : List ℕ) → List FeatureTable → List TableFiles → Type 0
AreTablesFiles folder [] [] = Unit {0}
AreTablesFiles folder (table ∷ tables) (files ∷ rest) = AreTableFiles folder table files × AreTablesFiles folder tables rest
AreTablesFiles folder tables files = ⊥

-- these are the files of a schema
pub record AreSchemaFiles (folder : List ℕ) (S : Schema) (files : FeatureFiles) : Type 0 where
  pub fcs : IsSchemaFileOption folder S.fcs files.fcs
  pub tables : AreTablesFiles folder S.tables files.tables.items

-- they are those of some schema
abbrev pub AreOfSchema : (folder : List ℕ) → FeatureFiles → Type 0
AreOfSchema folder files = (S : Schema) × AreSchemaFiles folder S files
