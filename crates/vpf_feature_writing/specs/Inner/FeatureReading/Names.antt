-- What names the files of features that are written don't have.
use Rattle.std.specs.Prelude.{◌≡◌, ◌≢◌, ℕ, List, Some, None, Ok, codes}
use Rattle.std.specs.List.{AllByRecursion}
use Rattle.vpf_source.specs.declared.file.File.{File}
use Rattle.vpf_table.specs.Grid.{Grid}
use Rattle.vpf_table.specs.Reading.{table_of}
use Rattle.vpf_library_files.specs.Loading.Loading.{within}
use Rattle.vpf_feature_files.specs.SchemaRows.Items.{own_file}
use Rattle.vpf_feature_files.specs.SchemaRows.Joins.{feature_items}
use Rattle.vpf_feature_files.specs.Schemas.{Schema, joins_of, table_in_file}
use Rattle.vpf_feature_writing.specs.Making.{features_made}
use Rattle.vpf_feature_writing.specs.FeatureReading.Laws.{IsReadSchema, LacksTables}

-- the features of a schema, which were read in the folder `source`, are written into another folder as these files
pub record AreWritten (source folder : List ℕ) (S : Schema) (made : List File) : Type 0 where
  pub read : IsReadSchema source S
  pub files_are : features_made folder S ≡ Ok made

-- none of these files has this name in the folder
abbrev pub HaveOtherNames : (made : List File) → (folder name : List ℕ) → Type 0
HaveOtherNames made folder name = AllByRecursion (λ (file : File). file.name ≢ within folder name) made

-- where features were read, the tree lacked each feature table that the schema table names and that wasn't there
abbrev pub ReadLacksTables : Type 0
ReadLacksTables = (folder : List ℕ) (S : Schema) → (r : IsReadSchema folder S) → LacksTables r.held folder S

-- no file that is written has the name of a feature table that the schema table names and that wasn't there
abbrev pub WrittenLacksTables : Type 0
WrittenLacksTables = (source folder : List ℕ) (S : Schema) (made : List File) → AreWritten source folder S made
    → AllByRecursion (λ item. (file : List ℕ) → own_file item ≡ Some file → table_in_file S.tables file ≡ None → HaveOtherNames made folder file)
    (feature_items (joins_of S.fcs))

-- nor that of the edges of a coverage, where these are a table in the folder in which the features were read
abbrev pub WrittenLacksEdges : Type 0
WrittenLacksEdges = (source folder : List ℕ) (S : Schema) (made : List File) → (written : AreWritten source folder S made)
    → (bytes : List ℕ) (grid : Grid)
    → written.read.held (within source (codes "edg")) ≡ Some bytes → table_of bytes ≡ Ok grid → HaveOtherNames made folder (codes "edg")
