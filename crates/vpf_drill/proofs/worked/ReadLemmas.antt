-- The files of the worked coverage are read as its tables, and are small.
use Rattle.std.proofs.Common.{◌≡◌, ℕ, List, ◌++◌, length, Ok, refl, subst, sym}
use Rattle.std.specs.Int.{w32}
use Rattle.std.specs.List.{AllByRecursion}
use Rattle.vpf_base.specs.Numbers.{number}
use Rattle.vpf_value.specs.Reading.{sized}
use Rattle.vpf_head.specs.Canonical.{canonical_text}
use Rattle.vpf_head.specs.Items.{text_at, item_at, name_at}
use Rattle.vpf_head.specs.Reading.{header_of, head_at, columns_at, column_at, narrative_at, key_at, count_at, kind_at, fresh_name_at}
use Rattle.vpf_table.specs.Grid.{Grid}
use Rattle.vpf_table.specs.Reading.{table_of, row_at, rows_at}
use Rattle.vpf_table.specs.Canonical.{canonical_table, row_text, rows_text}
use Rattle.vpf_drill.specs.Inner.Worked.Tables.{worked_classes, worked_edges, worked_faces, worked_nodes, worked_plan, worked_rings, worked_roads, worked_tiles}
use Rattle.vpf_drill.proofs.worked.HeaderLemmas.{tiles_text, tiles_are, edges_text, edges_are, faces_text, faces_are, rings_text, rings_are, nodes_text, nodes_are, plan_text, plan_are, classes_text, classes_are, roads_text, roads_are, worked_texts}

-- the bytes of a table whose header has this text
abbrev pub bytes_with : List ℕ → Grid → List ℕ
bytes_with text g = (number g.head.order w32 (length text) ++ text) ++ rows_text g.head.order g.head.columns g.rows

-- where these are read as the table, its canonical bytes are
read_as : (text : List ℕ) (g : Grid) → canonical_text g.head ≡ text → table_of (bytes_with text g) ≡ Ok g → table_of (canonical_table g) ≡ Ok g
read_as text g is read = subst (λ (t : List ℕ). table_of (bytes_with t g) ≡ Ok g) (sym is) read

-- there are as many of these
pub size_as : (text : List ℕ) (g : Grid) (n : ℕ) → canonical_text g.head ≡ text → length (bytes_with text g) ≡ n → length (canonical_table g) ≡ n
size_as text g n is few = subst (λ (t : List ℕ). length (bytes_with t g) ≡ n) (sym is) few

-- each table comes of these bytes
tables_come : AllByRecursion (λ (t : List ℕ × Grid). table_of (bytes_with t.0 t.1) ≡ Ok t.1) worked_texts
unfolding row_text rows_text table_of row_at rows_at sized header_of head_at columns_at column_at narrative_at key_at count_at kind_at fresh_name_at text_at item_at name_at
tables_come = (refl, (refl, (refl, (refl, (refl, (refl, (refl, (refl, tt))))))))

-- so does each of its canonical bytes, of which there are so many
pub tiles_read : table_of (canonical_table worked_tiles) ≡ Ok worked_tiles
tiles_read = read_as tiles_text worked_tiles tiles_are tables_come.0

pub tiles_size : length (canonical_table worked_tiles) ≡ 86
unfolding row_text rows_text
tiles_size = size_as tiles_text worked_tiles 86 tiles_are refl

pub edges_read : table_of (canonical_table worked_edges) ≡ Ok worked_edges
edges_read = read_as edges_text worked_edges edges_are tables_come.1.0

pub edges_size : length (canonical_table worked_edges) ≡ 328
unfolding row_text rows_text
edges_size = size_as edges_text worked_edges 328 edges_are refl

pub faces_read : table_of (canonical_table worked_faces) ≡ Ok worked_faces
faces_read = read_as faces_text worked_faces faces_are tables_come.1.1.0

pub faces_size : length (canonical_table worked_faces) ≡ 85
unfolding row_text rows_text
faces_size = size_as faces_text worked_faces 85 faces_are refl

pub rings_read : table_of (canonical_table worked_rings) ≡ Ok worked_rings
rings_read = read_as rings_text worked_rings rings_are tables_come.1.1.1.0

pub rings_size : length (canonical_table worked_rings) ≡ 125
unfolding row_text rows_text
rings_size = size_as rings_text worked_rings 125 rings_are refl

pub nodes_read : table_of (canonical_table worked_nodes) ≡ Ok worked_nodes
nodes_read = read_as nodes_text worked_nodes nodes_are tables_come.1.1.1.1.0

pub nodes_size : length (canonical_table worked_nodes) ≡ 79
unfolding row_text rows_text
nodes_size = size_as nodes_text worked_nodes 79 nodes_are refl

pub plan_read : table_of (canonical_table worked_plan) ≡ Ok worked_plan
plan_read = read_as plan_text worked_plan plan_are tables_come.1.1.1.1.1.0

pub plan_size : length (canonical_table worked_plan) ≡ 77
unfolding row_text rows_text
plan_size = size_as plan_text worked_plan 77 plan_are refl

pub classes_read : table_of (canonical_table worked_classes) ≡ Ok worked_classes
classes_read = read_as classes_text worked_classes classes_are tables_come.1.1.1.1.1.1.0

pub classes_size : length (canonical_table worked_classes) ≡ 221
unfolding row_text rows_text
classes_size = size_as classes_text worked_classes 221 classes_are refl

pub roads_read : table_of (canonical_table worked_roads) ≡ Ok worked_roads
roads_read = read_as roads_text worked_roads roads_are tables_come.1.1.1.1.1.1.1.0

pub roads_size : length (canonical_table worked_roads) ≡ 90
unfolding row_text rows_text
roads_size = size_as roads_text worked_roads 90 roads_are refl
