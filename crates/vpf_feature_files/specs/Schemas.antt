-- The schema of a coverage: its schema table, and the feature tables that were read by it, with their thematic indexes (MIL-STD-2407, 5.2.3,
-- feature classes).
use Rattle.std.specs.Prelude.{ℕ, List, [], find, Option, Some, None, option_and_then}
use Rattle.std.specs.Str.{bytes_eq}
use Rattle.vpf_table.specs.Grid.{Grid}
use Rattle.vpf_theme.specs.Entries.{Theme}
use Rattle.vpf_feature_files.specs.SchemaRows.Items.{own_file}
use Rattle.vpf_feature_files.specs.SchemaRows.Joins.{SchemaJoin, joins_in}

-- a thematic index that is there, and the name of its file in the folder of the coverage
pub record Index : Type 0 where
  pub file : List ℕ
  pub theme : Theme

-- a feature table: the name of its file in that folder, what it says, and for each of its columns the thematic index, if one is there
pub record FeatureTable : Type 0 where
  pub name : List ℕ
  pub grid : Grid
  pub indexes : List (Option Index)

-- the schema table, if there is one, and the feature tables that were read
pub record Schema : Type 0 where
  pub fcs : Option Grid
  pub tables : List FeatureTable

-- the rows of the schema table, none where there is none
abbrev pub joins_of : Option Grid → List SchemaJoin
joins_of None = []
joins_of (Some grid) = joins_in grid

-- the feature table in the file of this name, among those that were read
abbrev pub table_in_file : List FeatureTable → List ℕ → Option FeatureTable
table_in_file tables name = find (λ (table : FeatureTable). bytes_eq table.name name) tables

-- the feature table that an item names; none where it names no file of the folder
abbrev pub table_called : Schema → List ℕ → Option FeatureTable
table_called S item = option_and_then (table_in_file S.tables) (own_file item)
