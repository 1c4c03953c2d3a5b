-- The key columns by which a schema table joins tables: which of them isn't there.
use Rattle.std.specs.Prelude.{ℕ, List, [], ◌∷◌, Option, Some, None, is_some, option_and_then, if◌then◌else◌}
use Rattle.std.specs.Option.{option_map}
use Rattle.vpf_findings.specs.Firsts.{◌or◌}
use Rattle.vpf_findings.specs.declared.finding.TableName.{TableName}
use Rattle.vpf_head.specs.Head.{Col, place_of}
use Rattle.vpf_source.specs.Names.Items.{trimmed}
use Rattle.vpf_table.specs.Grid.{Grid}
use Rattle.vpf_prims.specs.Coverages.{CoverageTables}
use Rattle.vpf_prims.specs.Tables.{TileTables, table_named}
use Rattle.vpf_numbers.specs.Around.{around_of, first_having, grid_named}
use Rattle.vpf_feature_files.specs.SchemaRows.Items.{primitive_named}
use Rattle.vpf_feature_files.specs.SchemaRows.Joins.{SchemaJoin}

-- the columns of the table of this name in a tile, where it is there
abbrev pub columns_in_tile : TableName → Option TileTables → Option (List Col)
columns_in_tile name tile = option_map (λ (grid : Grid). grid.head.columns) (option_and_then (λ (T : TileTables). table_named T name) tile)

-- the columns of the table of this name, as the first tile that has it has them
abbrev pub columns_called : CoverageTables → Option TableName → Option (List Col)
columns_called c None = None
columns_called c (Some name) = first_having (grid_named name) (around_of c).tiles

-- a key that is none of these columns; a table that isn't there lacks nothing
abbrev pub absent_from : Option (List Col) → (key : List ℕ) → Option (List ℕ)
absent_from None key = None
absent_from (Some columns) key = if is_some (place_of (trimmed key) columns) then None else Some key

-- the first key of a row of the schema table that isn't there, by the columns of its feature table
abbrev pub absent_key : CoverageTables → List Col → SchemaJoin → Option (List ℕ)
absent_key c columns r = absent_from (Some columns) r.key1 or absent_from (columns_called c (primitive_named r.table2)) r.key2

-- .. of several rows
abbrev pub first_absent : CoverageTables → List Col → List SchemaJoin → Option (List ℕ)
first_absent c columns [] = None
first_absent c columns (r ∷ rs) = absent_key c columns r or first_absent c columns rs
