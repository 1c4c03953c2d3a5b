-- The schema of a coverage that the code has opened.
use Rattle.std.specs.Prelude.{◌≡◌, List, map, IfSome, None, Option}
use Rattle.std.specs.Option.{option_map}
use Rattle.vpf_table.specs.Grid.{Grid}
use Rattle.vpf_feature_files.specs.Schemas.{FeatureTable, Index, Schema}
use Rattle.vpf_feature_files.specs.SchemaRows.Joins.{schema_finding}
use Rattle.vpf_features.specs.declared.schema.FeatureView.{FeatureView}
use Rattle.vpf_features.specs.declared.schema.IndexView.{IndexView}
use Rattle.vpf_features.specs.declared.schema.Schema.TheInside.{Inside}

-- a thematic index
abbrev pub index_seen : IndexView → Index
index_seen v = record { file = v.file.now; theme = v.theme }

-- a feature table
abbrev pub table_seen : FeatureView → FeatureTable
table_seen v = record { name = v.name.now; grid = v.table; indexes = map (option_map index_seen) v.indexes.items }

-- the schema of a schema table and feature tables
abbrev pub schema_seen : Option Grid → List FeatureView → Schema
schema_seen fcs tables = record { fcs = fcs; tables = map table_seen tables }

-- nothing is found on a schema table, where there is one
abbrev pub IsRightSchemaTable : Option Grid → Type 0
IsRightSchemaTable fcs = IfSome fcs (λ grid. schema_finding grid ≡ None)

-- .. on that of a schema
abbrev pub HasRightTable : Inside → Type 0
HasRightTable s = IsRightSchemaTable s.fcs
