-- That a tree holds the features of a coverage, by the grammar of tables and thematic indexes alone.
use Rattle.std.specs.Prelude.{◌≡◌, ℕ, ◌+◌, ◌≤◌, List, [], ◌∷◌, ◌++◌, Option, Some, None, IfSome, option_and_then}
use Rattle.std.specs.List.{flat_map}
use Rattle.vpf_source.specs.Files.{Files}
use Rattle.vpf_source.specs.declared.file.File.{File}
use Rattle.vpf_base.specs.declared.orders.Order.{Order}
use Rattle.vpf_head.specs.Head.{Col}
use Rattle.vpf_table.specs.Grid.{Grid}
use Rattle.vpf_theme.specs.Spelling.{IsThematicIndex}
use Rattle.vpf_prims.specs.Roles.{class_roles}
use Rattle.vpf_prims.specs.Suiting.{HasRoles}
use Rattle.vpf_library_files.specs.Loading.Holding.{AreFilesOf, AreHeld, IsPlainTable, bytes_in}
use Rattle.vpf_library_files.specs.Loading.Loading.{loaded_file, most_loaded, within}
use Rattle.vpf_library_files.specs.Loading.Loads.{maybe}
use Rattle.vpf_feature_files.specs.SchemaRows.Items.{own_file}
use Rattle.vpf_feature_files.specs.SchemaRows.Joins.{feature_items}
use Rattle.vpf_feature_files.specs.Reading.{schema_name}
use Rattle.vpf_feature_files.specs.Schemas.{FeatureTable, Index, Schema, joins_of}

-- ---- thematic indexes

-- one file is the thematic index that a column names, of a table of this order
pub record IsThemeFile (folder : List ℕ) (order : Order) (column : Col) (index : Index) (files : List File) : Type 0 where
  pub bytes : List ℕ
  pub named : option_and_then own_file column.theme ≡ Some index.file
  pub are : files ≡ loaded_file (within folder index.file) bytes ∷ []
  pub spelled : IsThematicIndex order index.theme bytes

-- the same of a thematic index that may be absent
abbrev pub AreThemeFiles : (folder : List ℕ) → Order → Col → Option Index → List File → Type 0
AreThemeFiles folder order column None files = files ≡ []
AreThemeFiles folder order column (Some index) files = IsThemeFile folder order column index files

-- these files are the thematic indexes of the columns of a table, column by column
abbrev pub AreThemesFiles : (folder : List ℕ) → Order → List Col → List (Option Index) → List File → Type 0
AreThemesFiles folder order [] [] files = files ≡ []
AreThemesFiles folder order [] (index ∷ indexes) files = ⊥
AreThemesFiles folder order (column ∷ columns) [] files = ⊥
AreThemesFiles folder order (column ∷ columns) (index ∷ indexes) files =
    (here : List File) × (rest : List File) × (files ≡ here ++ rest) × AreThemeFiles folder order column index here
    × AreThemesFiles folder order columns indexes rest

-- ---- feature tables

-- these files are a feature table, which an item names, and behind it the thematic indexes of its columns
pub record AreFeatureFiles (folder item : List ℕ) (table : FeatureTable) (files : List File) : Type 0 where
  pub own : List File
  pub themes : List File
  pub named : own_file item ≡ Some table.name
  pub are : files ≡ own ++ themes
  pub own_are : AreFilesOf (within folder table.name) table.grid own
  pub themes_are : AreThemesFiles folder table.grid.head.order table.grid.head.columns table.indexes themes

-- the same of a feature table that may be absent
abbrev pub AreItemFiles : (folder item : List ℕ) → Option FeatureTable → List File → Type 0
AreItemFiles folder item None files = files ≡ []
AreItemFiles folder item (Some table) files = AreFeatureFiles folder item table files

-- these files are the feature tables that items name, item by item
abbrev pub AreItemsFiles : (folder : List ℕ) → List (List ℕ) → List (Option FeatureTable) → List File → Type 0
AreItemsFiles folder [] [] files = files ≡ []
AreItemsFiles folder [] (table ∷ tables) files = ⊥
AreItemsFiles folder (item ∷ items) [] files = ⊥
AreItemsFiles folder (item ∷ items) (table ∷ tables) files =
    (here : List File) × (rest : List File) × (files ≡ here ++ rest) × AreItemFiles folder item table here × AreItemsFiles folder items tables rest

-- ---- the schema table

-- a schema table: it has its columns
abbrev pub IsClassSchema : Grid → Type 0
IsClassSchema grid = HasRoles class_roles grid

-- one file is the schema table of a coverage, whose rows are of one length
pub record IsSchemaTable (folder : List ℕ) (grid : Grid) (files : List File) : Type 0 where
  pub table : IsPlainTable (schema_name folder) grid files
  pub columns : IsClassSchema grid

-- the same of a schema table that may be absent
abbrev pub AreFcsFiles : (folder : List ℕ) → Option Grid → List File → Type 0
AreFcsFiles folder None files = files ≡ []
AreFcsFiles folder (Some grid) files = IsSchemaTable folder grid files

-- ---- the features of a coverage

-- these files are the schema table of a coverage, and behind it the feature tables that it names: of each item in turn the one that was found, if
-- any; those are the tables of the schema
pub record AreFilesOfSchema (folder : List ℕ) (S : Schema) (found : List (Option FeatureTable)) (files : List File) : Type 0 where
  pub fcs : List File
  pub features : List File
  pub are : files ≡ fcs ++ features
  pub fcs_are : AreFcsFiles folder S.fcs fcs
  pub features_are : AreItemsFiles folder (feature_items (joins_of S.fcs)) found features
  pub tables : S.tables ≡ flat_map maybe found

-- a tree lacks the file that is named in the folder, if one is
abbrev pub LacksNamed : Files → (folder : List ℕ) → Option (List ℕ) → Type 0
LacksNamed held folder named = IfSome named (λ file. held (within folder file) ≡ None)

-- what it lacks of a column: the thematic index that the column names, where there is none
abbrev pub LacksOfColumn : Files → (folder : List ℕ) → Col → Option Index → Type 0
LacksOfColumn held folder column None = LacksNamed held folder (option_and_then own_file column.theme)
LacksOfColumn held folder column (Some index) = Unit {0}

-- the same of all columns
abbrev pub LacksOfColumns : Files → (folder : List ℕ) → List Col → List (Option Index) → Type 0
LacksOfColumns held folder [] indexes = Unit {0}
LacksOfColumns held folder (column ∷ columns) [] = Unit {0}
LacksOfColumns held folder (column ∷ columns) (index ∷ indexes) = LacksOfColumn held folder column index × LacksOfColumns held folder columns indexes

-- what it lacks of an item: the feature table that the item names, where there is none, and else what it lacks of the table's columns
abbrev pub LacksOfItem : Files → (folder item : List ℕ) → Option FeatureTable → Type 0
LacksOfItem held folder item None = LacksNamed held folder (own_file item)
LacksOfItem held folder item (Some table) = LacksOfColumns held folder table.grid.head.columns table.indexes

-- the same of all items
abbrev pub LacksOfItems : Files → (folder : List ℕ) → List (List ℕ) → List (Option FeatureTable) → Type 0
LacksOfItems held folder [] tables = Unit {0}
LacksOfItems held folder (item ∷ items) [] = Unit {0}
LacksOfItems held folder (item ∷ items) (table ∷ tables) = LacksOfItem held folder item table × LacksOfItems held folder items tables

-- a tree holds the features of a coverage: its schema table, the feature tables that it names and their thematic indexes, as far as they are
-- there, within the limits behind so many bytes; nothing stands under a name of one that isn't there
pub record HoldsSchema (held : Files) (folder : List ℕ) (S : Schema) (before : ℕ) : Type 0 where
  pub found : List (Option FeatureTable)
  pub files : List File
  pub are : AreFilesOfSchema folder S found files
  pub there : AreHeld held files
  pub few : before + bytes_in files ≤ most_loaded
  pub own : S.fcs ≡ None → held (schema_name folder) ≡ None
  pub items : LacksOfItems held folder (feature_items (joins_of S.fcs)) found
