-- The table of tiles, `tileref.aft`: the paths of its tiles, and what disagrees in it first (MIL-STD-2407, 5.3, tile reference coverage).
use Rattle.std.specs.Prelude.{◌≡◌, ℕ, ◌≤◌, ◌-◌, ◌&&◌, Bool, not, List, [], ◌∷◌, map, take, length, Option, Some, codes}
use Rattle.std.specs.List.{list_any}
use Rattle.vpf_value.specs.Values.{Value, TextOf}
use Rattle.vpf_head.specs.Head.{Col}
use Rattle.vpf_table.specs.Grid.{Row, Grid}
use Rattle.vpf_findings.specs.declared.finding.SeenWord.TheVariants as words
use Rattle.vpf_findings.specs.declared.finding.TableName.TheVariants as names
use Rattle.vpf_findings.specs.Findings.{CellSeen, WordSeen, Disagreement}
use Rattle.vpf_findings.specs.Firsts.{◌or◌, unless, first_of_rows}
use Rattle.vpf_prims.specs.declared.placing.TableAt.{TableAt}
use Rattle.vpf_prims.specs.Roles.{number_role, text_role, tileref_roles}
use Rattle.vpf_prims.specs.Columns.{RoleAt, id_column, role_column, role_line, columns_finding, in_table}
use Rattle.vpf_prims.specs.Lines.{id_line}
use Rattle.vpf_prims.specs.Lists.{kth}
use Rattle.vpf_prims.specs.Numbering.{IsRowOf}
use Rattle.vpf_prims.specs.Reading.{named_cell, natural_in}
use Rattle.vpf_prims.specs.References.{cell_at}
use Rattle.vpf_prims.specs.Suiting.{HasRoles}
use Rattle.vpf_prims.specs.Lines.{no_rows_line}
use Rattle.vpf_library_files.specs.Tileref.Numbered.{most_tiles}
use Rattle.vpf_library_files.specs.Tileref.Paths.{TilePath, path_of, is_path, same_path, IsPath}

-- where findings are: in no tile, and in the first file that is read
abbrev pub tileref_at : TableAt
tileref_at = record { tile = 0; table = names.Tileref; file = 0 }

-- the column of the names of tiles
abbrev pub name_column : List Col → RoleAt
name_column columns = role_column columns (text_role (codes "tile_name"))

-- the bytes of a text; a cell of another kind has none
abbrev pub text_bytes : Value → List ℕ
text_bytes (TextOf text) = text
text_bytes v = []

-- the path that a row names in this column
abbrev pub row_path : RoleAt → Row → TilePath
row_path column row = path_of (text_bytes (cell_at row column.place))

-- the paths of the tiles, row by row
abbrev pub paths_of : Grid → List TilePath
paths_of grid = map (row_path (name_column grid.head.columns)) grid.rows

-- a tile before tile k has this path
abbrev pub is_taken : List TilePath → ℕ → TilePath → Bool
is_taken paths k path = list_any (same_path path) (take (k - 1) paths)

-- the name in row k is no path, or an earlier tile has the path
abbrev pub path_line : RoleAt → List TilePath → ℕ → Row → Option Disagreement
path_line column paths k row =
    let path = row_path column row in
    unless (is_path path && not (is_taken paths k path))
    (in_table tileref_at 1 k column.name (CellSeen column.kind (cell_at row column.place)) (WordSeen words.Path))

-- the lines on row k, by the columns of ids and names and the paths of all rows
abbrev pub tile_row_lines : (id name : RoleAt) → List TilePath → ℕ → Row → Option Disagreement
tile_row_lines id name paths k row = id_line tileref_at k id row or path_line name paths k row

-- the first finding on the columns: that there are no rows is looked at with the id
abbrev pub tile_columns_finding : List Col → List Row → Option Disagreement
tile_columns_finding columns rows =
    role_line tileref_at columns (number_role (codes "id"))
    or no_rows_line tileref_at columns rows most_tiles
    or columns_finding tileref_at columns (text_role (codes "tile_name") ∷ [])

-- the first finding on rows, by the columns of ids and names
abbrev pub tile_rows_finding : (id name : RoleAt) → List Row → Option Disagreement
tile_rows_finding id name rows = first_of_rows (tile_row_lines id name (map (row_path name) rows)) 1 rows

-- the first finding on the table of tiles
unfoldable pub tileref_finding : Grid → Option Disagreement
tileref_finding grid =
    tile_columns_finding grid.head.columns grid.rows
    or tile_rows_finding (id_column grid.head.columns) (name_column grid.head.columns) grid.rows

-- a table of tiles: it has its columns and some rows, which are numbered from 1, each names a path, and no two the same
pub record IsTileref (grid : Grid) : Type 0 where
  pub columns : HasRoles tileref_roles grid
  pub some : 1 ≤ length grid.rows
  pub ids : (k : ℕ) → IsRowOf (length grid.rows) k → natural_in (named_cell grid.head.columns (codes "id") (kth grid.rows k [])) ≡ Some k
  pub paths : (k : ℕ) → IsRowOf (length grid.rows) k → IsPath (kth (paths_of grid) k [])
  pub apart : (j k : ℕ) → IsRowOf (length grid.rows) j → IsRowOf (length grid.rows) k → kth (paths_of grid) j [] ≡ kth (paths_of grid) k [] → j ≡ k
