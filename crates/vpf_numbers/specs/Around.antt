-- What is known around a tile when its columns and numbers are looked at: the tables of all tiles of its coverage.
use Rattle.std.specs.Prelude.{ℕ, Bool, true, false, List, [], ◌∷◌, map, length, Option, Some, None, slice_index_or}
use Rattle.std.specs.Borrow.{Bor}
use Rattle.std.specs.Option.{option_and_then, option_copied, option_map}
use Rattle.vpf_findings.specs.declared.finding.TableName.{TableName}
use Rattle.vpf_findings.specs.declared.finding.TableName.TheVariants as names
use Rattle.vpf_head.specs.Head.{Head, Col}
use Rattle.vpf_table.specs.Grid.{Grid}
use Rattle.vpf_prims.specs.Coverages.{CoverageTables}
use Rattle.vpf_prims.specs.Reading.{PrimitiveTables}
use Rattle.vpf_prims.specs.Tables.{TileTables}

-- whether the coverage is tiled, and the tables of its tiles by their numbers from 0, none where a tile is empty
pub record Around : Type 0 where
  pub is_tiled : Bool
  pub tiles : List (Option PrimitiveTables)

-- those of a coverage
abbrev pub around_of : CoverageTables → Around
around_of c = record { is_tiled = c.is_tiled; tiles = map (option_map (λ (T : TileTables). T.tables)) c.tiles }

-- the tables of a tile
abbrev pub tables_around : Around → ℕ → Option PrimitiveTables
tables_around A t = slice_index_or A.tiles t None

-- how many rows a tile has of a table, by a count over its tables
abbrev pub count_in_tile : (PrimitiveTables → ℕ) → Option PrimitiveTables → ℕ
count_in_tile count None = 0
count_in_tile count (Some tables) = count tables

-- the nodes of a tile, its faces and its edges
abbrev pub nodes_around : Around → ℕ → ℕ
nodes_around A t = count_in_tile (λ (tables : PrimitiveTables). length tables.cnd.rows) (tables_around A t)

abbrev pub faces_around : Around → ℕ → ℕ
faces_around A t = count_in_tile (λ (tables : PrimitiveTables). length tables.fac.rows) (tables_around A t)

abbrev pub edges_around : Around → ℕ → ℕ
edges_around A t = count_in_tile (λ (tables : PrimitiveTables). length tables.edg.rows) (tables_around A t)

-- the columns of a table, or of another where it is absent
abbrev pub columns_or : Option Grid → Option (List Col) → Option (List Col)
columns_or None columns = columns
columns_or (Some grid) columns = Some grid.head.columns

-- the columns of a table in the first tile that has it
abbrev pub first_having : (PrimitiveTables → Option Grid) → List (Option PrimitiveTables) → Option (List Col)
first_having table [] = None
first_having table (None ∷ tiles) = first_having table tiles
first_having table (Some tables ∷ tiles) = columns_or (table tables) (first_having table tiles)

-- the columns that those of a tile are to be like; an untiled coverage has nothing to be like
abbrev pub model_in : Bool → (PrimitiveTables → Option Grid) → List (Option PrimitiveTables) → Option (List Col)
model_in true table tiles = first_having table tiles
model_in false table tiles = None

-- those of edges, faces, rings, connected nodes and entity nodes
abbrev pub model_edg : Around → Option (List Col)
model_edg A = model_in A.is_tiled (λ (t : PrimitiveTables). Some t.edg) A.tiles

abbrev pub model_fac : Around → Option (List Col)
model_fac A = model_in A.is_tiled (λ (t : PrimitiveTables). Some t.fac) A.tiles

abbrev pub model_rng : Around → Option (List Col)
model_rng A = model_in A.is_tiled (λ (t : PrimitiveTables). Some t.rng) A.tiles

abbrev pub model_cnd : Around → Option (List Col)
model_cnd A = model_in A.is_tiled (λ (t : PrimitiveTables). Some t.cnd) A.tiles

abbrev pub model_end : Around → Option (List Col)
model_end A = model_in A.is_tiled (λ (t : PrimitiveTables). t.end) A.tiles

-- the columns of a header that is lent
abbrev pub columns_in_view : Option (Bor Head) → Option (List Col)
columns_in_view header = option_map (λ (head : Head). head.columns) (option_copied header)

-- the table that a tile has by this name
abbrev pub grid_named : TableName → PrimitiveTables → Option Grid
grid_named names.Edg tables = Some tables.edg
grid_named names.Fac tables = Some tables.fac
grid_named names.Rng tables = Some tables.rng
grid_named names.Cnd tables = Some tables.cnd
grid_named names.End tables = tables.end
grid_named name tables = None

-- how many rows it has
abbrev pub rows_in : Option Grid → ℕ
rows_in None = 0
rows_in (Some grid) = length grid.rows

-- how many rows the tile of this number has of the table of this name; none where there is no such tile, or it is empty
abbrev pub rows_there : Around → TableName → Option ℕ → Option ℕ
rows_there A name t = option_map (λ tables. rows_in (grid_named name tables)) (option_and_then (tables_around A) t)
