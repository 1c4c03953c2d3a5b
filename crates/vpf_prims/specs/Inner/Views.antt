-- The tables of a tile that the code has opened, and the columns that it has found in them.
use Rattle.std.specs.Prelude.{◌≡◌, Option, Some, None, IfSome, length, map}
use Rattle.vpf_table.specs.Grid.{Grid}
use Rattle.vpf_prims.specs.declared.placing.RoleColumn.{RoleColumn}
use Rattle.vpf_prims.specs.declared.placing.TableAt.{TableAt}
use Rattle.vpf_prims.specs.declared.views.PrimitiveViews.{PrimitiveViews}
use Rattle.vpf_prims.specs.declared.views.TileColumns.{TileColumns}
use Rattle.vpf_prims.specs.Edges.{AreWithin, edge_columns, edge_row, moved_to}
use Rattle.vpf_prims.specs.Inner.Placed.{IsColumnOf}
use Rattle.vpf_prims.specs.Reading.{PrimitiveTables}
use Rattle.vpf_prims.specs.Roles.{reference_role}
use Rattle.std.specs.Prelude.{codes}

-- the tables
abbrev pub tables_in_view : PrimitiveViews → PrimitiveTables
tables_in_view v = record { edg = v.edg; fac = v.fac; rng = v.rng; cnd = v.cnd; end = v.end }

-- the column of the faces of entity nodes is there where their table is
abbrev pub IsEntityColumn : Option Grid → Option RoleColumn → Type 0
IsEntityColumn None None = Unit {0}
IsEntityColumn None (Some column) = ⊥
IsEntityColumn (Some grid) None = ⊥
IsEntityColumn (Some grid) (Some column) = IsColumnOf grid.head.columns (reference_role (codes "containing_face")) column

-- the columns are those of the tables, wherever the findings in them are, and what is kept of the rows of edges is what they say
pub record AreColumnsOf (tables : PrimitiveTables) (columns : TileColumns) : Type 0 where
  pub edges : (at : TableAt) → moved_to at columns.edges ≡ edge_columns at tables.edg.head.columns
  pub within : AreWithin (length tables.edg.head.columns) columns.edges
  pub edge_rows : IfSome columns.edge_rows (λ rows. rows.items ≡ map (edge_row columns.edges) tables.edg.rows)
  pub ring_ptr : IsColumnOf tables.fac.head.columns (reference_role (codes "ring_ptr")) columns.ring_ptr
  pub face_id : IsColumnOf tables.rng.head.columns (reference_role (codes "face_id")) columns.face_id
  pub start_edge : IsColumnOf tables.rng.head.columns (reference_role (codes "start_edge")) columns.start_edge
  pub first_edge : IsColumnOf tables.cnd.head.columns (reference_role (codes "first_edge")) columns.first_edge
  pub containing_face : IsEntityColumn tables.end columns.containing_face
