-- The tables of a tile where their files stand among those that were read, and the places in them that disagree.
use Rattle.std.specs.Prelude.{ℕ, ◌+◌, [], Option, Some, None, codes, if◌then◌else◌}
use Rattle.vpf_table.specs.Head.{varies_in}
use Rattle.vpf_table.specs.Grid.{Grid}
use Rattle.vpf_table.specs.TableName.{TableName}
use Rattle.vpf_table.specs.TableName.TheVariants as names
use Rattle.vpf_table.specs.Findings.{Sight, CellSeen, Disagreement}
use Rattle.vpf_prims.specs.declared.placing.TableAt.{TableAt}
use Rattle.vpf_prims.specs.declared.citing.Citation.{Citation}
use Rattle.vpf_prims.specs.declared.citing.Citation.TheVariants as cites
use Rattle.vpf_prims.specs.Roles.{Role, reference_role, mark_role}
use Rattle.vpf_prims.specs.Columns.{RoleAt, role_column, in_table}
use Rattle.vpf_prims.specs.References.{cell_at}
use Rattle.vpf_prims.specs.Lists.{kth}
use Rattle.vpf_prims.specs.Reading.{PrimitiveTables}

-- the tables of a tile, and the place of the first of their files among those that were read, from 0
pub record TileTables : Type 0 where
  pub first : ℕ
  pub tables : PrimitiveTables

-- how many files a table is: its own, and its index where its rows vary
abbrev pub files_of_grid : Grid → ℕ
files_of_grid grid = if varies_in grid.head.columns then 2 else 1

-- where the files of each table stand
abbrev pub fac_file : TileTables → ℕ
fac_file T = T.first + files_of_grid T.tables.edg

-- those of rings
abbrev pub rng_file : TileTables → ℕ
rng_file T = fac_file T + files_of_grid T.tables.fac

-- those of nodes
abbrev pub cnd_file : TileTables → ℕ
cnd_file T = rng_file T + files_of_grid T.tables.rng

-- those of entity nodes
abbrev pub end_file : TileTables → ℕ
end_file T = cnd_file T + files_of_grid T.tables.cnd

-- each table of the tile t, where its findings are
abbrev pub edg_at : ℕ → TileTables → TableAt
edg_at t T = record { tile = t; table = names.Edg; file = T.first }

-- faces
abbrev pub fac_at : ℕ → TileTables → TableAt
fac_at t T = record { tile = t; table = names.Fac; file = fac_file T }

-- rings
abbrev pub rng_at : ℕ → TileTables → TableAt
rng_at t T = record { tile = t; table = names.Rng; file = rng_file T }

-- connected nodes
abbrev pub cnd_at : ℕ → TileTables → TableAt
cnd_at t T = record { tile = t; table = names.Cnd; file = cnd_file T }

-- entity nodes
abbrev pub entities_at : ℕ → TileTables → TableAt
entities_at t T = record { tile = t; table = names.End; file = end_file T }

-- the table that a tile has by this name
abbrev pub table_named : TileTables → TableName → Option Grid
table_named T names.Edg = Some T.tables.edg
table_named T names.Fac = Some T.tables.fac
table_named T names.Rng = Some T.tables.rng
table_named T names.Cnd = Some T.tables.cnd
table_named T names.End = T.tables.end
table_named T name = None

-- where its file stands, whether it is there or not
abbrev pub file_named : TileTables → TableName → ℕ
file_named T names.Edg = T.first
file_named T names.Fac = fac_file T
file_named T names.Rng = rng_file T
file_named T names.Cnd = cnd_file T
file_named T names.End = end_file T
file_named T name = 0

-- the table of this name, where its findings are in the tile t
abbrev pub table_at : ℕ → TileTables → TableName → TableAt
table_at t T name = record { tile = t; table = name; file = file_named T name }

-- the place of a table's file, where the table is there
abbrev pub file_where : Option Grid → ℕ → Option ℕ
file_where None file = None
file_where (Some grid) file = Some file

-- the role of a column of references
abbrev pub cited_role : Citation → Role
cited_role cites.StartNode = reference_role (codes "start_node")
cited_role cites.EndNode = reference_role (codes "end_node")
cited_role cites.RightFace = reference_role (codes "right_face")
cited_role cites.LeftFace = reference_role (codes "left_face")
cited_role cites.RightEdge = reference_role (codes "right_edge")
cited_role cites.LeftEdge = reference_role (codes "left_edge")
cited_role cites.TileLine = mark_role (codes "tile_line")
cited_role cites.RingPtr = reference_role (codes "ring_ptr")
cited_role cites.FaceId = reference_role (codes "face_id")
cited_role cites.StartEdge = reference_role (codes "start_edge")
cited_role cites.FirstEdge = reference_role (codes "first_edge")

-- the name of the table that has it
abbrev pub cited_table : Citation → TableName
cited_table cites.RingPtr = names.Fac
cited_table cites.FaceId = names.Rng
cited_table cites.StartEdge = names.Rng
cited_table cites.FirstEdge = names.Cnd
cited_table citation = names.Edg

-- the table that has it
abbrev pub cited_grid : PrimitiveTables → Citation → Grid
cited_grid tables cites.RingPtr = tables.fac
cited_grid tables cites.FaceId = tables.rng
cited_grid tables cites.StartEdge = tables.rng
cited_grid tables cites.FirstEdge = tables.cnd
cited_grid tables citation = tables.edg

-- where the findings of that table are
abbrev pub cited_at : ℕ → TileTables → Citation → TableAt
cited_at t T cites.RingPtr = fac_at t T
cited_at t T cites.FaceId = rng_at t T
cited_at t T cites.StartEdge = rng_at t T
cited_at t T cites.FirstEdge = cnd_at t T
cited_at t T citation = edg_at t T

-- the column itself
abbrev pub cited_column : PrimitiveTables → Citation → RoleAt
cited_column tables citation = role_column (cited_grid tables citation).head.columns (cited_role citation)

-- the cell of row k in the column, as it is seen
abbrev pub cited_cell : PrimitiveTables → Citation → ℕ → Sight
cited_cell tables citation k =
    let column = cited_column tables citation in
    CellSeen column.kind (cell_at (kth (cited_grid tables citation).rows k []) column.place)

-- a place in the column that disagrees, in a row or, at row 0, in the table as a whole
abbrev pub at_citation : (t : ℕ) → TileTables → Citation → (rule row : ℕ) → (found wanted : Sight) → Disagreement
at_citation t T citation rule row found wanted = in_table (cited_at t T citation) rule row (cited_column T.tables citation).name found wanted
