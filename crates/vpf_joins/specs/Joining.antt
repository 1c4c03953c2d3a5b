-- The primitives that a schema table joins to features: in all tiles, the rows whose key cell equals the feature's (MIL-STD-2407, 5.2.3, feature
-- classes).
use Rattle.std.specs.Prelude.{ℕ, ◌+◌, ◌==◌, List, [], filter, map, Option, Some, None}
use Rattle.std.specs.List.{flat_map, list_any, range_with_len}
use Rattle.std.specs.Option.{option_and_then}
use Rattle.vpf_value.specs.Values.{Value}
use Rattle.vpf_head.specs.Head.{Col, place_of}
use Rattle.vpf_source.specs.Names.Items.{trimmed}
use Rattle.vpf_table.specs.Grid.{Row, Grid}
use Rattle.vpf_findings.specs.declared.finding.TableName.{TableName}
use Rattle.vpf_theme.specs.Findings.{cells_of}
use Rattle.vpf_prims.specs.Coverages.{CoverageTables, last_tile, tile_at}
use Rattle.vpf_prims.specs.Lists.{kth}
use Rattle.vpf_prims.specs.Reading.{named_cell}
use Rattle.vpf_prims.specs.Tables.{TileTables, table_named}
use Rattle.vpf_joins.specs.Keys.Keys.{Keyed, keyed_in, rows_with}
use Rattle.vpf_joins.specs.declared.keys.keyed.RowAt.{RowAt}
use Rattle.vpf_feature_files.specs.SchemaRows.Items.{primitive_named}
use Rattle.vpf_feature_files.specs.SchemaRows.Joins.{SchemaJoin}
use Rattle.vpf_joins.specs.declared.features.Primitive.{Primitive}

-- the cells of the column at a place, none where there is no such column
abbrev pub cells_at : Grid → Option ℕ → List Value
cells_at grid None = []
cells_at grid (Some c) = cells_of grid c

-- the cells of the column that an item names
abbrev pub key_cells : Grid → List ℕ → List Value
key_cells grid key = cells_at grid (place_of (trimmed key) grid.head.columns)

-- the keys of the rows of a table of a tile, if it is there
abbrev pub keyed_in_table : ℕ → (key : List ℕ) → Option Grid → List Keyed
keyed_in_table t key None = []
keyed_in_table t key (Some grid) = keyed_in t (key_cells grid key)

-- the table of this name in a tile
abbrev pub table_in_tile : CoverageTables → TableName → ℕ → Option Grid
table_in_tile c name t = option_and_then (λ (T : TileTables). table_named T name) (tile_at c t)

-- the keys of the rows of the tables of this name, tile by tile
abbrev pub keyed_over : CoverageTables → TableName → (key : List ℕ) → List Keyed
keyed_over c name key = flat_map (λ t. keyed_in_table t key (table_in_tile c name t)) (range_with_len 0 (last_tile c + 1))

-- the primitive in a row
abbrev pub primitive_at : TableName → RowAt → Primitive
primitive_at name at = record { tile = at.tile; table = name; row = at.row }

-- the primitives whose key this is: tile by tile, in each by their numbers
abbrev pub joined_to : CoverageTables → TableName → (key : List ℕ) → Value → List Primitive
joined_to c name key v = map (primitive_at name) (rows_with v (keyed_over c name key))

-- the same of a table that may be none of primitives
abbrev pub joined_in : CoverageTables → Option TableName → (key : List ℕ) → Value → List Primitive
joined_in c None key v = []
joined_in c (Some name) key v = joined_to c name key v

-- the primitives that a row of the schema table joins to a feature, by the feature's row and the columns of its table
abbrev pub joined_by : CoverageTables → List Col → Row → SchemaJoin → List Primitive
joined_by c columns row r = joined_in c (primitive_named r.table2) r.key2 (named_cell columns (trimmed r.key1) row)

-- what the schema table joins to the feature in a row: by row of the schema table
abbrev pub joined_at : CoverageTables → List SchemaJoin → Grid → ℕ → List Primitive
joined_at c joins grid k = flat_map (joined_by c grid.head.columns (kth grid.rows k [])) joins

-- the numbers up to n that stand in a list, each once, rising
abbrev pub once_rising : ℕ → List ℕ → List ℕ
once_rising n rows = filter (λ k. list_any (λ row. row == k) rows) (range_with_len 1 n)
