-- What is so of features that were read, looked at, and written into another folder: they are read there, and they agree.
use Rattle.std.specs.Prelude.{◌≡◌, ℕ, ◌+◌, ◌≤◌, List, [], ◌∷◌, IfSome, Option, Some, None, Ok, option_and_then}
use Rattle.std.specs.List.{AllByRecursion}
use Rattle.vpf_base.specs.Bytes.{IsBytes}
use Rattle.vpf_source.specs.Files.{Files, HoldsBytes}
use Rattle.vpf_source.specs.declared.file.File.{File}
use Rattle.vpf_head.specs.Head.{Col}
use Rattle.vpf_table.specs.Grid.{Grid}
use Rattle.vpf_table.specs.Reading.{table_of}
use Rattle.vpf_library_files.specs.Loading.Holding.{AreHeld, bytes_in}
use Rattle.vpf_library_files.specs.Loading.Loading.{most_loaded, within}
use Rattle.vpf_feature_files.specs.SchemaRows.Items.{own_file}
use Rattle.vpf_feature_files.specs.SchemaRows.Joins.{feature_items}
use Rattle.vpf_feature_files.specs.Reading.{read_schema, schema_name}
use Rattle.vpf_feature_files.specs.Schemas.{FeatureTable, Index, Schema, joins_of, table_in_file}
use Rattle.vpf_features.specs.FeatureAgreement.Agreeing.{FeaturesAgree}
use Rattle.vpf_feature_writing.specs.Making.{features_made}
use Rattle.vpf_feature_writing.specs.FeatureReading.Rebuilt.{rebuilt}

-- the schema is one that was read of files of bytes: its feature tables are those that its schema table names, as far as they were there
pub record IsReadSchema (folder : List ℕ) (S : Schema) : Type 0 where
  pub held : Files
  pub bytes : HoldsBytes held
  pub before : ℕ
  pub behind : ℕ
  pub read : read_schema held folder before ≡ (Ok S, behind)

-- features that were read, and agree, agree where their indexes are built anew
abbrev pub WrittenAgrees : Type 0
WrittenAgrees = (folder : List ℕ) (S : Schema) → IsReadSchema folder S → FeaturesAgree S → FeaturesAgree (rebuilt S)

-- an item names the file of this name in its folder
pub record IsOwnFile (file : List ℕ) : Type 0 where
  pub item : List ℕ
  pub named : own_file item ≡ Some file

-- a table as it was read, of some bytes
pub record IsReadGrid (grid : Grid) : Type 0 where
  pub bytes : List ℕ
  pub are : IsBytes bytes
  pub read : table_of bytes ≡ Ok grid

-- a feature table as it was read: items name its file, and those of its thematic indexes
pub record IsReadTable (table : FeatureTable) : Type 0 where
  pub grid : IsReadGrid table.grid
  pub own : IsOwnFile table.name
  pub indexes : AllByRecursion (λ index. IfSome index (λ (i : Index). IsOwnFile i.file)) table.indexes

-- so are the schema table of a schema and its feature tables
pub record AreReadWithSchema (S : Schema) : Type 0 where
  pub schema : IfSome S.fcs IsReadGrid
  pub tables : AllByRecursion IsReadTable S.tables

-- those of a schema that was read are such
abbrev pub TablesAreRead : Type 0
TablesAreRead = (folder : List ℕ) (S : Schema) → IsReadSchema folder S → AreReadWithSchema S

-- a tree lacks the file of this name in the folder
abbrev pub Lacks : Files → (folder file : List ℕ) → Type 0
Lacks held folder file = held (within folder file) ≡ None

-- it lacks each feature table that the schema table names and that wasn't there
abbrev pub LacksTables : Files → (folder : List ℕ) → Schema → Type 0
LacksTables held folder S =
    AllByRecursion (λ item. (file : List ℕ) → own_file item ≡ Some file → table_in_file S.tables file ≡ None → Lacks held folder file)
    (feature_items (joins_of S.fcs))

-- .. and each thematic index that a column names and that wasn't there
abbrev pub LacksIndexes : Files → (folder : List ℕ) → List Col → List (Option Index) → Type 0
LacksIndexes held folder [] indexes = Unit {0}
LacksIndexes held folder (column ∷ columns) [] = Unit {0}
LacksIndexes held folder (column ∷ columns) (None ∷ indexes) =
    ((file : List ℕ) → option_and_then own_file column.theme ≡ Some file → Lacks held folder file) × LacksIndexes held folder columns indexes
LacksIndexes held folder (column ∷ columns) (Some index ∷ indexes) = LacksIndexes held folder columns indexes

-- .. and so of all its feature tables
abbrev pub LacksThemes : Files → (folder : List ℕ) → Schema → Type 0
LacksThemes held folder S = AllByRecursion (λ (table : FeatureTable). LacksIndexes held folder table.grid.head.columns table.indexes) S.tables

-- what a folder lacks of a schema, and of its schema table where there is none
pub record LacksOfSchema (held : Files) (folder : List ℕ) (S : Schema) : Type 0 where
  pub fcs : S.fcs ≡ None → held (schema_name folder) ≡ None
  pub tables : LacksTables held folder S
  pub indexes : LacksThemes held folder S

-- what is written of features that agree is read, in any tree that holds the files that are made and lacks what wasn't there
abbrev pub WrittenAreRead : Type 0
WrittenAreRead = (folder other : List ℕ) (S : Schema) (made : List File) (held : Files) (loaded : ℕ) → IsReadSchema folder S → FeaturesAgree S
    → features_made other S ≡ Ok made → AreHeld held made → LacksOfSchema held other S → loaded + bytes_in made ≤ most_loaded
    → read_schema held other loaded ≡ (Ok (rebuilt S), loaded + bytes_in made)
