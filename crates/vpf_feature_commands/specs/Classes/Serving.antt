-- A thematic index that agrees with its column: what it serves is what a plain scan finds.
use Rattle.std.specs.Prelude.{◌≡◌, ℕ, List, [], map, Some, IfSome, Ok}
use Rattle.vpf_head.specs.Head.{place_of}
use Rattle.vpf_prims.specs.Coverages.{CoverageTables}
use Rattle.vpf_theme.specs.Agreeing.{AgreesAt}
use Rattle.vpf_feature_files.specs.SchemaRows.Joins.{SchemaJoin}
use Rattle.vpf_feature_files.specs.Schemas.{FeatureTable, Index, Schema}
use Rattle.vpf_feature_commands.specs.Classes.Asking.{class_joins, features_asked, index_of_column, joined_table}

-- the index that a feature table has for the column at a position, if it has one, agrees with that column
abbrev pub HasGoodIndex : FeatureTable → ℕ → Type 0
HasGoodIndex F c = IfSome (index_of_column F c) (λ (i : Index). AgreesAt i.theme F.grid c)

-- the one index that is asked for agrees: that of the column of this name of the feature table that the class is joined to
abbrev pub AskedIndexServes : Schema → (class name : List ℕ) → Type 0
AskedIndexServes S class name =
    (joins : List SchemaJoin) (F : FeatureTable) (c : ℕ) → class_joins S class ≡ Ok joins → joined_table S joins ≡ Some F
    → place_of name F.grid.head.columns ≡ Some c → HasGoodIndex F c

-- a feature table without its indexes
abbrev pub unindexed_table : FeatureTable → FeatureTable
unindexed_table F = record { name = F.name; grid = F.grid; indexes = [] }

-- the same schema without any
abbrev pub unindexed_schema : Schema → Schema
unindexed_schema S = record { fcs = S.fcs; tables = map unindexed_table S.tables }

-- where the index that is asked for agrees, what is asked for is what plain scans find
abbrev pub ServesAsScans : Type 0
ServesAsScans = (c : CoverageTables) (S : Schema) (class name word : List ℕ) → AskedIndexServes S class name
    → features_asked c S class name word ≡ features_asked c (unindexed_schema S) class name word
