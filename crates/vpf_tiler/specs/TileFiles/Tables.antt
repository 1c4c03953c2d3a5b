-- The tables of a tiled library in the order in which they are made, and the names of their files (MIL-STD-2407, 5.2.3, tiled coverages).
use Rattle.std.specs.Prelude.{ℕ, List, [], ◌∷◌, flat_map, length, Option, None, Some, codes, if◌then◌else◌}
use Rattle.vpf_table.specs.Grid.{Grid}
use Rattle.vpf_prims.specs.Lists.{kth}
use Rattle.vpf_prims.specs.Primitives.{Primitives}
use Rattle.vpf_prims.specs.Reading.{PrimitiveTables}
use Rattle.vpf_library_files.specs.Loading.Loading.{within}
use Rattle.vpf_library_files.specs.Tileref.Stops.{path_texts}
use Rattle.vpf_tiling.specs.Ranks.{up_to}
use Rattle.vpf_tiling.specs.Tiles.{is_made}
use Rattle.vpf_primitive_tables.specs.TileTables.Grids.{edges_made, entities_made, faces_made, nodes_made, rings_made, tiles_made}
use Rattle.vpf_library_files.specs.TableFiles.Adding.{NamedTable, table_within}

-- the table of entity nodes of a tile, where the coverage has one
abbrev pub entity_tables : (folder : List ℕ) → Option Grid → Primitives → (ℕ → ℕ) → ℕ → List NamedTable
entity_tables folder None c plan t = []
entity_tables folder (Some grid) c plan t = table_within folder (codes "end") (entities_made grid c plan t) ∷ []

-- its tables of edges, faces, rings and connected nodes
abbrev pub tile_edge_table : (folder : List ℕ) → PrimitiveTables → Primitives → (ℕ → ℕ) → ℕ → NamedTable
tile_edge_table folder tables c plan t = table_within folder (codes "edg") (edges_made tables.edg c plan t)

-- faces
abbrev pub face_table : (folder : List ℕ) → PrimitiveTables → Primitives → (ℕ → ℕ) → ℕ → NamedTable
face_table folder tables c plan t = table_within folder (codes "fac") (faces_made tables.fac c plan t)

-- rings
abbrev pub tile_ring_table : (folder : List ℕ) → PrimitiveTables → Primitives → (ℕ → ℕ) → ℕ → NamedTable
tile_ring_table folder tables c plan t = table_within folder (codes "rng") (rings_made tables.rng c plan t)

-- connected nodes
abbrev pub node_table : (folder : List ℕ) → PrimitiveTables → Primitives → (ℕ → ℕ) → ℕ → NamedTable
node_table folder tables c plan t = table_within folder (codes "cnd") (nodes_made tables.cnd c plan t)

-- the tables of a tile, in its folder
abbrev pub tile_tables : (folder : List ℕ) → PrimitiveTables → Primitives → (ℕ → ℕ) → ℕ → List NamedTable
tile_tables folder tables c plan t =
    tile_edge_table folder tables c plan t ∷ face_table folder tables c plan t ∷ tile_ring_table folder tables c plan t ∷ node_table folder tables c plan t
    ∷ entity_tables folder tables.end c plan t

-- the same of tile t of so many, whose folder is within that of the coverage; an empty one has none
abbrev pub tables_if_made : (cov : List ℕ) → List (List ℕ) → PrimitiveTables → Primitives → (ℕ → ℕ) → (tiles t : ℕ) → List NamedTable
tables_if_made cov paths tables c plan tiles t = if is_made c plan tiles t then tile_tables (within cov (kth paths t [])) tables c plan t else []

-- the tables of all tiles, in the order of the tiles
abbrev pub all_tile_tables : (cov : List ℕ) → List (List ℕ) → PrimitiveTables → Primitives → (ℕ → ℕ) → ℕ → List NamedTable
all_tile_tables cov paths tables c plan tiles = flat_map (tables_if_made cov paths tables c plan tiles) (up_to tiles)

-- the table of tiles of the library
abbrev pub tileref_table : Grid → NamedTable
tileref_table tileref = table_within (codes "tileref") (codes "tileref.aft") (tiles_made tileref)

-- all tables of the tiled library of a coverage of this name, by a plan and a table of tiles, in the order in which they are made
abbrev pub library_tables : (cov : List ℕ) → PrimitiveTables → Primitives → (ℕ → ℕ) → (tileref : Grid) → List NamedTable
library_tables cov tables c plan tileref = tileref_table tileref ∷ all_tile_tables cov (path_texts tileref) tables c plan (length tileref.rows)
