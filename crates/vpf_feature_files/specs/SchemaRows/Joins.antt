-- The rows of a feature class schema table, and the feature tables that they name (MIL-STD-2407, 5.2.3, feature classes).
use Rattle.std.specs.Prelude.{ℕ, Bool, List, [], ◌∷◌, ◌++◌, ◌&&◌, filter, Option, codes, if◌then◌else◌, is_some}
use Rattle.std.specs.List.{flat_map, list_any}
use Rattle.vpf_value.specs.Values.{Value, TextOf}
use Rattle.vpf_head.specs.Head.{Col}
use Rattle.vpf_table.specs.Grid.{Row, Grid}
use Rattle.vpf_findings.specs.declared.finding.TableName.TheVariants as names
use Rattle.vpf_findings.specs.Findings.{Disagreement}
use Rattle.vpf_prims.specs.declared.placing.TableAt.{TableAt}
use Rattle.vpf_prims.specs.Columns.{columns_finding}
use Rattle.vpf_prims.specs.Reading.{named_cell, rows_said}
use Rattle.vpf_prims.specs.Roles.{class_roles}
use Rattle.vpf_feature_files.specs.SchemaRows.Items.{is_feature_table, primitive_named, same_item}
use Rattle.vpf_feature_files.specs.declared.schema_rows.rows.SchemaRow.{SchemaRow}

-- a row of a schema table: a class, and the two tables that it joins, each by a column; items as they stand in their cells
pub record SchemaJoin : Type 0 where
  pub class : List ℕ
  pub table1 : List ℕ
  pub key1 : List ℕ
  pub table2 : List ℕ
  pub key2 : List ℕ

-- a row of the code
abbrev pub join_of : SchemaRow → SchemaJoin
join_of r = record { class = r.class.text.now; table1 = r.table1.text.now; key1 = r.key1.text.now; table2 = r.table2.text.now; key2 = r.key2.text.now }

-- the item in a cell of text; other cells have none
abbrev pub item_in : Value → List ℕ
item_in (TextOf text) = text
item_in v = []

-- what a row says
abbrev pub join_in_row : List Col → Row → SchemaJoin
join_in_row columns row = record {
  class = item_in (named_cell columns (codes "feature_class") row);
  table1 = item_in (named_cell columns (codes "table1") row);
  key1 = item_in (named_cell columns (codes "table1_key") row);
  table2 = item_in (named_cell columns (codes "table2") row);
  key2 = item_in (named_cell columns (codes "table2_key") row);
}

-- what the rows of a schema table say
abbrev pub joins_in : Grid → List SchemaJoin
joins_in grid = rows_said join_in_row grid

-- where findings are: in no tile, and in the file in hand
abbrev pub schema_at : TableAt
schema_at = record { tile = 0; table = names.Fcs; file = 0 }

-- the first finding on a schema table, which is looked at in its columns alone
abbrev pub schema_finding : Grid → Option Disagreement
schema_finding grid = columns_finding schema_at grid.head.columns class_roles

-- the row joins a table of features to one of primitives
abbrev pub is_join : SchemaJoin → Bool
is_join r = is_feature_table r.table1 && is_some (primitive_named r.table2)

-- the row is of the class
abbrev pub has_class : List ℕ → SchemaJoin → Bool
has_class class r = same_item r.class class

-- the tables that a row names
abbrev pub tables_in : SchemaJoin → List (List ℕ)
tables_in r = r.table1 ∷ r.table2 ∷ []

-- an item, unless one of those before it names the same
abbrev pub new_item : (before : List (List ℕ)) → List ℕ → List (List ℕ)
new_item before item = if list_any (same_item item) before then [] else item ∷ []

-- the first item of each name, behind those that came before
abbrev pub once_after : (before : List (List ℕ)) → List (List ℕ) → List (List ℕ)
once_after before [] = []
once_after before (item ∷ items) = new_item before item ++ once_after (before ++ item ∷ []) items

-- the first item of each name
abbrev pub once : List (List ℕ) → List (List ℕ)
once items = once_after [] items

-- the feature tables that the rows name, row by row, each once
abbrev pub feature_items : List SchemaJoin → List (List ℕ)
feature_items rows = once (filter is_feature_table (flat_map tables_in rows))
