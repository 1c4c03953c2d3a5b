-- The tables of the tiles of the grid have short headers and short rows.
use Rattle.std.proofs.Common.{[], ◌≡◌, ◌≤◌, ℕ, suc, zero, ◌+◌, true, List, ◌∷◌, length, map, refl, arith, length-append}
use Rattle.std.specs.Prelude.{codes}
use Rattle.std.specs.List.{AllByRecursion, range_with_len}
use Rattle.vpf_head.specs.Canonical.{canonical_text, column_text, columns_text}
use Rattle.vpf_head.specs.Head.{Col, names_rows}
use Rattle.vpf_table.specs.Canonical.{row_text}
use Rattle.vpf_table.specs.Grid.{Grid, Row}
use Rattle.vpf_write.specs.Revise.Revising.{head_with_kinds, revised}
use Rattle.vpf_prims.specs.Primitives.{Primitives}
use Rattle.vpf_tiling.specs.Ranks.{numbered_from}
use Rattle.vpf_primitive_tables.specs.TableForms.Forms.{id_kinds, named_value, natural_value, pair_kinds, ring_kinds}
use Rattle.vpf_primitive_tables.specs.TileTables.Grids.{edge_kinds, edges_made, faces_made, nodes_made, rings_made, tiles_made}
use Rattle.vpf_vectors.specs.declared.cells.rows.EdgeRow.{EdgeRow}
use Rattle.vpf_vectors.specs.declared.cells.rows.RingRow.{RingRow}
use Rattle.vpf_vectors.specs.Heads.{edge_head, face_head, node_head, ring_head, tileref_head}
use Rattle.vpf_vectors.specs.Tables.{edge_table, padded_name, pair_table, ring_table, tile_cells, grid_tileref}
use Rattle.vpf_vectors.specs.Inner.StemLaws.{name_length}
use Rattle.vpf_drill.proofs.tiled_sizes.RowSizes.{row_few}
use Rattle.vpf_drill.proofs.tiled_sizes.TableSizes.{IsShort}
use Rattle.vpf_vectors.specs.Inner.HeadLaws.{one, eight}

-- ---- headers

edge_text : length (canonical_text (head_with_kinds (edge_kinds edge_head.columns) edge_head)) ≤ 500
unfolding canonical_text columns_text column_text
edge_text = rw one (omega arith)

face_text : length (canonical_text (head_with_kinds (pair_kinds (codes "ring_ptr") face_head.columns) face_head)) ≤ 500
unfolding canonical_text columns_text column_text
face_text = rw one (omega arith)

ring_text : length (canonical_text (head_with_kinds (ring_kinds ring_head.columns) ring_head)) ≤ 500
unfolding canonical_text columns_text column_text
ring_text = rw one (omega arith)

node_text : length (canonical_text (head_with_kinds (pair_kinds (codes "first_edge") node_head.columns) node_head)) ≤ 500
unfolding canonical_text columns_text column_text
node_text = rw one (omega arith)

tileref_text : length (canonical_text (head_with_kinds (id_kinds tileref_head.columns) tileref_head)) ≤ 500
unfolding canonical_text columns_text column_text
tileref_text = rw (one, eight) (omega arith)

-- ---- the tables of a tile

-- a table of at most eight columns, whose cells can name rows
pub short_by : (g : Grid) → length (canonical_text g.head) ≤ 500 → AllByRecursion (λ (c : Col). names_rows c.kind ≡ true) g.head.columns
    → length g.head.columns ≤ 8 → IsShort g
short_by g text kinds few = record { text = text; rows = each g.rows }
  where
    each : (rows : List Row) → AllByRecursion (λ (row : Row). length (row_text g.head.order g.head.columns row) ≤ 104) rows
    each [] = tt
    each (row ∷ rows) = (let e = row_few g.head.order g.head.columns row kinds in omega (arith, e, few), each rows)

pub edges_short : (rows : List EdgeRow) (c : Primitives) (plan : ℕ → ℕ) (t : ℕ) → IsShort (edges_made (edge_table rows) c plan t)
edges_short rows c plan t =
    short_by (edges_made (edge_table rows) c plan t) edge_text (refl, (refl, (refl, (refl, (refl, (refl, (refl, (refl, tt)))))))) (omega arith)

pub faces_short : (rows : List ℕ) (c : Primitives) (plan : ℕ → ℕ) (t : ℕ) → IsShort (faces_made (pair_table face_head 1 rows) c plan t)
faces_short rows c plan t = short_by (faces_made (pair_table face_head 1 rows) c plan t) face_text (refl, (refl, tt)) (omega arith)

pub rings_short : (rows : List RingRow) (c : Primitives) (plan : ℕ → ℕ) (t : ℕ) → IsShort (rings_made (ring_table rows) c plan t)
rings_short rows c plan t = short_by (rings_made (ring_table rows) c plan t) ring_text (refl, (refl, (refl, tt))) (omega arith)

pub nodes_short : (rows : List ℕ) (c : Primitives) (plan : ℕ → ℕ) (t : ℕ) → IsShort (nodes_made (pair_table node_head 1 rows) c plan t)
nodes_short rows c plan t = short_by (nodes_made (pair_table node_head 1 rows) c plan t) node_text (refl, (refl, tt)) (omega arith)

-- ---- the table of tiles

-- its row of this number
abbrev tile_row : ℕ → Row → Row
tile_row k row = revised (named_value tileref_head.columns (codes "id") (natural_value k)) row

-- the bytes of a row
abbrev tile_bytes : Row → ℕ
tile_bytes row =
    length (row_text tileref_head.order (head_with_kinds (id_kinds tileref_head.columns) tileref_head).columns row)

tile_row_few : (k j : ℕ) → j ≤ 100000 → tile_bytes (tile_row k (tile_cells j)) ≤ 104
unfolding row_text
tile_row_few k j h = omega (arith, name_length j h, length-append (padded_name j) [])

tile_rows_few : (k from many : ℕ) → from + many ≤ 100001
    → AllByRecursion (λ row. tile_bytes row ≤ 104) (numbered_from k tile_row (map tile_cells (range_with_len from many)))
tile_rows_few k from zero h = tt
tile_rows_few k from (suc many) h = (tile_row_few k from (omega (arith, h)), tile_rows_few (suc k) (from + 1) many (omega (arith, h)))

pub tileref_short : (tiles : ℕ) → tiles ≤ 100000 → IsShort (tiles_made (grid_tileref tiles))
tileref_short tiles few = record { text = tileref_text; rows = tile_rows_few 1 1 tiles (omega (arith, few)) }
