-- What a call that reads a feature table answers or adds.
use Rattle.std.specs.Prelude.{◌≡◌, ℕ, false, List, ◌++◌, Option, Some, None, Result, Ok}
use Rattle.vpf_head.specs.Head.{varies_in}
use Rattle.vpf_table.specs.Grid.{Grid}
use Rattle.vpf_table.specs.Reading.{table_of}
use Rattle.vpf_triplet.specs.declared.places.Place.{Place}
use Rattle.vpf_library_files.specs.declared.loading.loading.LoadStop.{LoadStop}
use Rattle.vpf_library_files.specs.Loading.Loading.{graded}
use Rattle.vpf_library_files.specs.Loading.Loads.{ReadsStop, maybe}
use Rattle.vpf_feature_files.specs.SchemaRows.Joins.{schema_finding}
use Rattle.vpf_feature_files.specs.declared.files.TableFiles.{TableFiles}
use Rattle.vpf_feature_files.specs.Inner.Held.{AreTableFiles, AreTablesFiles}
use Rattle.vpf_feature_files.specs.Reading.{looked_at}
use Rattle.vpf_feature_files.specs.Schemas.{FeatureTable, Schema}

-- the files of a feature table that may be absent
abbrev pub AreTableFilesOption : (folder : List ℕ) → Option FeatureTable → Option TableFiles → Type 0
AreTableFilesOption folder None None = Unit {0}
AreTableFilesOption folder (Some table) (Some files) = AreTableFiles folder table files
AreTableFilesOption folder table files = ⊥

-- they stand behind those that were there
pub record AddsFeatures (folder : List ℕ) (old new : List TableFiles) (table : Option FeatureTable) : Type 0 where
  pub kept : Option TableFiles
  pub behind : new ≡ old ++ maybe kept
  pub are : AreTableFilesOption folder table kept

-- nothing speaks against a schema table
pub record IsLooked (grid : Grid) (fcs : Option Grid) : Type 0 where
  pub is : fcs ≡ Some grid
  pub fixed : varies_in grid.head.columns ≡ false
  pub columns : schema_finding grid ≡ None

-- a schema table is refused so
abbrev pub RefusedSchema : (name : List ℕ) → Result Grid Place → LoadStop → Type 0
RefusedSchema name table stop = (loaded : ℕ) → ReadsStop stop loaded (graded name (looked_at name) table loaded)

-- a schema: its table is in the bytes, its rows don't vary and its columns are there; and these are the files of its feature tables
pub record IsSchemaIn (folder bytes : List ℕ) (tables : List TableFiles) (S : Schema) : Type 0 where
  pub grid : Grid
  pub is : S.fcs ≡ Some grid
  pub opened : table_of bytes ≡ Ok grid
  pub fixed : varies_in grid.head.columns ≡ false
  pub columns : schema_finding grid ≡ None
  pub are : AreTablesFiles folder S.tables tables
