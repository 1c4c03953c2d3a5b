-- What disagrees first in the tables of a tile: table by table, in each the columns and then the rows.
use Rattle.std.specs.Prelude.{ℕ, List, [], ◌∷◌, length, Option, Some, None, codes}
use Rattle.vpf_base.specs.Limits.{most_rows}
use Rattle.vpf_head.specs.Head.{Col}
use Rattle.vpf_table.specs.Grid.{Row, Grid}
use Rattle.vpf_findings.specs.Findings.{Disagreement}
use Rattle.vpf_findings.specs.Firsts.{◌or◌, first_of_rows}
use Rattle.vpf_prims.specs.declared.placing.TableAt.{TableAt}
use Rattle.vpf_prims.specs.declared.edges.Ranges.{Ranges}
use Rattle.vpf_prims.specs.Roles.{number_role, reference_role, edge_roles, face_roles, ring_roles, node_roles, entity_roles}
use Rattle.vpf_prims.specs.Lines.{no_rows_line}
use Rattle.vpf_prims.specs.Edges.{edge_columns}
use Rattle.vpf_prims.specs.Reading.{PrimitiveTables}
use Rattle.vpf_prims.specs.Suiting.{carried_columns}
use Rattle.vpf_prims.specs.Tables.{TileTables, edg_at, fac_at, rng_at, cnd_at, entities_at}
use Rattle.vpf_prims.specs.Coverages.{CoverageTables}
use Rattle.vpf_prims.specs.Libraries.{in_tiles}
use Rattle.vpf_numbers.specs.Around.{Around, around_of, model_edg, model_fac, model_rng, model_cnd, model_end}
use Rattle.vpf_numbers.specs.ColumnLines.{role_lines, roles_finding, beside_finding, bare_line}
use Rattle.vpf_numbers.specs.RowLines.{edge_row_lines, face_row_lines, ring_row_lines, node_row_lines, entity_row_lines}

-- how many nodes, faces and edges a tile has
abbrev pub own_ranges : PrimitiveTables → Ranges
own_ranges tables = record { nodes = length tables.cnd.rows; faces = length tables.fac.rows; edges = length tables.edg.rows }

-- the first finding on the columns of faces: that there are no rows is looked at with the id
abbrev pub face_columns_finding : TableAt → List Col → Option (List Col) → List Row → Option Disagreement
face_columns_finding at columns model rows =
    role_lines at columns model (number_role (codes "id"))
    or no_rows_line at columns rows most_rows
    or roles_finding at columns model (reference_role (codes "ring_ptr") ∷ [])
    or beside_finding at face_roles columns model

-- the first finding on edges
abbrev pub edg_finding : ℕ → Around → TileTables → Option Disagreement
edg_finding t A T =
    roles_finding (edg_at t T) T.tables.edg.head.columns (model_edg A) edge_roles
    or beside_finding (edg_at t T) edge_roles T.tables.edg.head.columns (model_edg A)
    or first_of_rows (edge_row_lines A (edge_columns (edg_at t T) T.tables.edg.head.columns) (own_ranges T.tables)) 1 T.tables.edg.rows

-- on faces
abbrev pub fac_finding : ℕ → Around → TileTables → Option Disagreement
fac_finding t A T =
    face_columns_finding (fac_at t T) T.tables.fac.head.columns (model_fac A) T.tables.fac.rows
    or first_of_rows (face_row_lines (fac_at t T) T.tables.fac.head.columns (length T.tables.rng.rows)) 1 T.tables.fac.rows

-- on rings, which carry no other columns, nor did those that they are to be like
abbrev pub rng_finding : ℕ → Around → TileTables → Option Disagreement
rng_finding t A T =
    roles_finding (rng_at t T) T.tables.rng.head.columns (model_rng A) ring_roles
    or bare_line (rng_at t T) (carried_columns ring_roles T.tables.rng.head.columns)
    or beside_finding (rng_at t T) ring_roles T.tables.rng.head.columns (model_rng A)
    or first_of_rows (ring_row_lines (rng_at t T) T.tables.rng.head.columns (length T.tables.fac.rows) (length T.tables.edg.rows)) 1 T.tables.rng.rows

-- on connected nodes
abbrev pub cnd_finding : ℕ → Around → TileTables → Option Disagreement
cnd_finding t A T =
    roles_finding (cnd_at t T) T.tables.cnd.head.columns (model_cnd A) node_roles
    or beside_finding (cnd_at t T) node_roles T.tables.cnd.head.columns (model_cnd A)
    or first_of_rows (node_row_lines (cnd_at t T) T.tables.cnd.head.columns (length T.tables.edg.rows)) 1 T.tables.cnd.rows

-- on entity nodes, where they have a table, by where their findings are and how many faces there are
abbrev pub entities_finding : TableAt → Option (List Col) → (faces : ℕ) → Option Grid → Option Disagreement
entities_finding at model faces None = None
entities_finding at model faces (Some grid) =
    roles_finding at grid.head.columns model entity_roles
    or beside_finding at entity_roles grid.head.columns model
    or first_of_rows (entity_row_lines at grid.head.columns faces) 1 grid.rows

-- the first finding on the columns, ids, references and marks of tile t
unfoldable pub numbers_finding : ℕ → Around → TileTables → Option Disagreement
numbers_finding t A T =
    edg_finding t A T
    or fac_finding t A T
    or rng_finding t A T
    or cnd_finding t A T
    or entities_finding (entities_at t T) (model_end A) (length T.tables.fac.rows) T.tables.end

-- the first finding on those of a coverage, tile by tile
abbrev pub coverage_numbers : CoverageTables → Option Disagreement
coverage_numbers c = in_tiles (λ t T. numbers_finding t (around_of c) T) c
