-- Columns of the code against those of a schema table.
use Rattle.std.specs.Prelude.{List, codes}
use Rattle.vpf_head.specs.Head.{Col}
use Rattle.vpf_prims.specs.Inner.Placed.{IsColumnOf}
use Rattle.vpf_prims.specs.Roles.{text_role}
use Rattle.vpf_feature_files.specs.declared.schema_rows.columns.SchemaColumns.{SchemaColumns}

-- they are those of a schema table with these columns
pub record AreSchemaColumns (columns : List Col) (placed : SchemaColumns) : Type 0 where
  pub class : IsColumnOf columns (text_role (codes "feature_class")) placed.class
  pub table1 : IsColumnOf columns (text_role (codes "table1")) placed.table1
  pub key1 : IsColumnOf columns (text_role (codes "table1_key")) placed.key1
  pub table2 : IsColumnOf columns (text_role (codes "table2")) placed.table2
  pub key2 : IsColumnOf columns (text_role (codes "table2_key")) placed.key2
