-- Features that agree: each feature table has its column of ids, its features are numbered from 1, and each of its thematic indexes is one of its column
-- (MIL-STD-2407, 5.2.3, feature classes, and 5.3.2, thematic indexes).
use Rattle.std.specs.Prelude.{◌≡◌, ◌↔◌, ℕ, List, [], length, slice_get, Option, Some, None, IfSome, Ok, codes}
use Rattle.std.specs.List.{AllByRecursion}
use Rattle.vpf_source.specs.Files.{Files}
use Rattle.vpf_base.specs.declared.orders.Order.{Order}
use Rattle.vpf_table.specs.Grid.{Grid}
use Rattle.vpf_theme.specs.Agreeing.{AgreesAt}
use Rattle.vpf_theme.specs.Reading.{theme_of}
use Rattle.vpf_findings.specs.Firsts.{◌or◌}
use Rattle.vpf_prims.specs.Lists.{kth}
use Rattle.vpf_prims.specs.Numbering.{IsRowOf}
use Rattle.vpf_prims.specs.Reading.{named_cell, natural_in}
use Rattle.vpf_prims.specs.Roles.{feature_roles}
use Rattle.vpf_prims.specs.Suiting.{HasRoles}
use Rattle.vpf_features.specs.Reading.{read_schema}
use Rattle.vpf_features.specs.Schemas.{FeatureTable, Index, Schema}
use Rattle.vpf_features.specs.Finding.{Named, tables_finding, themes_finding}

-- the table has its column of ids, and its features are numbered from 1
pub record AreFeatures (grid : Grid) : Type 0 where
  pub columns : HasRoles feature_roles grid
  pub ids : (k : ℕ) → IsRowOf (length grid.rows) k → natural_in (named_cell grid.head.columns (codes "id") (kth grid.rows k [])) ≡ Some k

-- each thematic index that is there for a column is one of that column
abbrev pub HaveOwnIndexes : FeatureTable → Type 0
HaveOwnIndexes table = (c : ℕ) (index : Index) → slice_get table.indexes c ≡ Some (Some index) → AgreesAt index.theme table.grid c

-- the features of a schema agree
pub record FeaturesAgree (S : Schema) : Type 0 where
  pub features : AllByRecursion (λ (table : FeatureTable). AreFeatures table.grid) S.tables
  pub indexes : AllByRecursion HaveOwnIndexes S.tables

-- the first finding on feature tables, or else on their thematic indexes
abbrev pub features_finding : (folder : List ℕ) → List FeatureTable → Option Named
features_finding folder tables = tables_finding folder tables or themes_finding folder tables

-- a thematic index was read of some bytes, in this order
pub record IsReadIndex (order : Order) (index : Index) : Type 0 where
  pub bytes : List ℕ
  pub opened : theme_of order bytes ≡ Ok index.theme

-- so was each of a table
abbrev pub HasReadIndexes : Order → List (Option Index) → Type 0
HasReadIndexes order indexes = AllByRecursion (λ (o : Option Index). IfSome o (IsReadIndex order)) indexes

-- .. each of all feature tables, in the order of its table
abbrev pub AreReadTables : List FeatureTable → Type 0
AreReadTables tables = AllByRecursion (λ (t : FeatureTable). HasReadIndexes t.grid.head.order t.indexes) tables

-- of features that were read there is no finding exactly where they agree
abbrev pub FeaturesDecide : Type 0
FeaturesDecide = (files : Files) (folder : List ℕ) (before behind : ℕ) (S : Schema) → read_schema files folder before ≡ (Ok S, behind)
    → (features_finding folder S.tables ≡ None) ↔ FeaturesAgree S
