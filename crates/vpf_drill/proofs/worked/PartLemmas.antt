-- The worked coverage is read of its files.
use Rattle.std.proofs.Common.{◌≡◌, ℕ, ◌+◌, ◌≤◌, List, [], ◌∷◌, length, None, Some, Ok, codes, refl, arith}
use Rattle.vpf_base.specs.declared.orders.Order.TheVariants.{Little}
use Rattle.vpf_library_files.specs.Loading.Loading.{read_tile, read_tileref, tileref_name}
use Rattle.vpf_library_files.specs.Tileref.Stops.{tileref_stop}
use Rattle.vpf_library_files.specs.Tileref.Tileref.{tileref_finding}
use Rattle.vpf_tiling.specs.Plan.PlanLoads.{read_plan}
use Rattle.vpf_feature_files.specs.Reading.{read_schema, schema_name}
use Rattle.vpf_feature_files.specs.Schemas.{Index}
use Rattle.vpf_library_commands.specs.Tile.{plan_name}
use Rattle.vpf_drill.specs.GridCutting.Held.{read_alone}
use Rattle.vpf_drill.specs.Inner.Worked.Held.{worked_held, worked_index_bytes}
use Rattle.vpf_drill.specs.Inner.Worked.Request.{WorkedIsRead, worked_tile}
use Rattle.vpf_drill.specs.Inner.Worked.Tables.{worked_classes, worked_edges, worked_faces, worked_features, worked_index, worked_lanes, worked_nodes, worked_plan, worked_rings, worked_roads, worked_schema, worked_tiles}
use Rattle.vpf_vectors.specs.Heads.{ids}
use Rattle.vpf_drill.proofs.grid_cutting.LoadLemmas.{IsThere, all_come, none_comes, option_comes, plan_comes, size, table_comes, tile_comes, tileref_comes}
use Rattle.vpf_drill.proofs.worked.LoadLemmas.{IsIndexThere, classes_come, feature_comes, index_comes, indexes_come, no_index, schema_comes}
use Rattle.vpf_drill.proofs.worked.ReadLemmas.{classes_read, classes_size, edges_read, edges_size, faces_read, faces_size, nodes_read, nodes_size, plan_read, plan_size, rings_read, rings_size, roads_read, roads_size, tiles_read, tiles_size}
use Rattle.vpf_drill.proofs.worked.ThemeLemmas.{index_read, index_size}

-- the folder of the coverage
abbrev folder : List ℕ
folder = codes "land/roads"

-- its tables are there
edges_there : IsThere worked_held (codes "land/roads/edg") worked_edges
edges_there = record { there = refl; read = edges_read; one_length = refl; few = (let n = edges_size in omega (arith, n)) }

faces_there : IsThere worked_held (codes "land/roads/fac") worked_faces
faces_there = record { there = refl; read = faces_read; one_length = refl; few = (let n = faces_size in omega (arith, n)) }

rings_there : IsThere worked_held (codes "land/roads/rng") worked_rings
rings_there = record { there = refl; read = rings_read; one_length = refl; few = (let n = rings_size in omega (arith, n)) }

nodes_there : IsThere worked_held (codes "land/roads/cnd") worked_nodes
nodes_there = record { there = refl; read = nodes_read; one_length = refl; few = (let n = nodes_size in omega (arith, n)) }

classes_there : IsThere worked_held (schema_name folder) worked_classes
classes_there = record { there = refl; read = classes_read; one_length = refl; few = (let n = classes_size in omega (arith, n)) }

roads_there : IsThere worked_held (codes "land/roads/road.lft") worked_roads
roads_there = record { there = refl; read = roads_read; one_length = refl; few = (let n = roads_size in omega (arith, n)) }

tiles_there : IsThere worked_held (tileref_name (codes "land")) worked_tiles
tiles_there = record { there = refl; read = tiles_read; one_length = refl; few = (let n = tiles_size in omega (arith, n)) }

plan_there : IsThere worked_held (plan_name (codes "land") (codes "roads")) worked_plan
plan_there = record { there = refl; read = plan_read; one_length = refl; few = (let n = plan_size in omega (arith, n)) }

-- so is the thematic index
abbrev index : Index
index = record { file = codes "lanes.ti"; theme = worked_index }

index_there : IsIndexThere worked_held folder Little worked_lanes index worked_index_bytes
index_there = record { named = refl; there = refl; read = index_read; few = (let n = index_size in omega (arith, n)) }

-- how many bytes are read, file by file
abbrev to_edges : ℕ
to_edges = 0 + size worked_edges

abbrev to_faces : ℕ
to_faces = to_edges + size worked_faces

abbrev to_rings : ℕ
to_rings = to_faces + size worked_rings

abbrev to_nodes : ℕ
to_nodes = to_rings + size worked_nodes

abbrev to_classes : ℕ
to_classes = to_nodes + size worked_classes

abbrev to_roads : ℕ
to_roads = to_classes + size worked_roads

abbrev to_index : ℕ
to_index = to_roads + length worked_index_bytes

abbrev to_tiles : ℕ
to_tiles = to_index + size worked_tiles

abbrev to_plan : ℕ
to_plan = to_tiles + size worked_plan

-- all of them are few
pub all_few : to_plan ≤ 2000
all_few = omega (arith, edges_size, faces_size, rings_size, nodes_size, classes_size, roads_size, index_size, tiles_size, plan_size)

-- the tables of the coverage come
tile_read : read_tile worked_held folder 0 ≡ (Ok (Some worked_tile), to_nodes)
tile_read =
    tile_comes worked_held folder to_edges to_faces to_rings to_nodes _ _ _ _
    (option_comes worked_held (codes "land/roads/edg") worked_edges 0 edges_there (omega (arith, all_few)))
    (table_comes worked_held (codes "land/roads/fac") worked_faces to_edges faces_there (omega (arith, all_few)))
    (table_comes worked_held (codes "land/roads/rng") worked_rings to_faces rings_there (omega (arith, all_few)))
    (table_comes worked_held (codes "land/roads/cnd") worked_nodes to_rings nodes_there (omega (arith, all_few)))
    (none_comes worked_held (codes "land/roads/end") to_nodes refl)

-- its features come
schema_read : read_schema worked_held folder to_nodes ≡ (Ok worked_schema, to_index)
schema_read =
    schema_comes worked_held folder worked_classes (codes "road.lft" ∷ []) (worked_features ∷ []) to_nodes to_classes to_index
    (classes_come worked_held folder worked_classes to_nodes classes_there (omega (arith, all_few)) refl) refl
    (feature_comes worked_held folder (codes "road.lft") (codes "road.lft") (read_alone (codes "land/roads/road.lft") worked_roads) (None ∷ Some index ∷ [])
    to_classes to_roads to_index refl
    (option_comes worked_held (codes "land/roads/road.lft") worked_roads to_classes roads_there (omega (arith, all_few)))
    (indexes_come worked_held folder Little (ids (codes "Id")) worked_lanes None (Some index) to_roads to_roads to_index
    (no_index worked_held folder Little (ids (codes "Id")) to_roads refl)
    (index_comes worked_held folder Little worked_lanes index worked_index_bytes to_roads index_there (omega (arith, all_few)))))

-- the table of tiles and the plan come
tiles_come : read_tileref worked_held (codes "land") to_index ≡ (Ok (read_alone (codes "land/tileref/tileref.aft") worked_tiles), to_tiles)
unfolding tileref_stop tileref_finding
tiles_come = tileref_comes worked_held (codes "land") worked_tiles to_index tiles_there (omega (arith, all_few)) refl

plan_comes_behind : read_plan worked_held (codes "land/roads/plan") to_tiles ≡ (Ok (read_alone (codes "land/roads/plan") worked_plan), to_plan)
plan_comes_behind = plan_comes worked_held (codes "land/roads/plan") worked_plan to_tiles plan_there (omega (arith, all_few)) refl

-- so all are read
pub worked_read : WorkedIsRead
worked_read =
    all_come worked_held (codes "land") (codes "roads") to_nodes to_index to_tiles to_plan worked_tile worked_schema
    (read_alone (codes "land/tileref/tileref.aft") worked_tiles) (read_alone (codes "land/roads/plan") worked_plan) tile_read schema_read tiles_come
    plan_comes_behind
