-- The tables of the tiled library of the worked coverage pass no limit, nor do the files of its features.
use Rattle.std.proofs.Common.{[], ◌≡◌, ℕ, ◌≤◌, Bool, true, List, ◌∷◌, ◌++◌, length, None, Ok, codes, refl, subst, sym, arith}
use Rattle.std.specs.List.{AllByRecursion, list_all}
use Rattle.std.proofs.lemmas.Bool.Decides.{nat_tests}
use Rattle.std.specs.Prelude.{IsOk, nat_le}
use Rattle.vpf_base.proofs.Booleans.{both}
use Rattle.vpf_source.specs.declared.file.File.{File}
use Rattle.vpf_darts.specs.Darts.{code, edge_in, flip, sign_in, tile_in}
use Rattle.vpf_darts.specs.Maps.{without_edge}
use Rattle.vpf_head.specs.Canonical.{canonical_text, columns_text, column_text}
use Rattle.vpf_table.specs.Canonical.{canonical_table, row_text}
use Rattle.vpf_write.specs.Revise.Revising.{head_with_kinds}
use Rattle.vpf_write.specs.Writing.{first_limit}
use Rattle.vpf_prims.specs.Primitives.{Primitives}
use Rattle.vpf_prims.specs.Reading.{primitives_of}
use Rattle.vpf_library_files.specs.Loading.Holding.{bytes_in}
use Rattle.vpf_library_files.specs.Loading.Loading.{loaded_file}
use Rattle.vpf_library_files.specs.TableFiles.Adding.{NamedTable, files_made, first_limit_of}
use Rattle.vpf_primitive_tables.specs.TileTables.Grids.{edge_kinds, edges_made, tiles_made}
use Rattle.vpf_library_commands.specs.Tables.{tile_tables, tileref_table}
use Rattle.vpf_library_commands.specs.TileTheorem.Tilings.Cutting.{cut_features, cut_plan, cut_tables}
use Rattle.vpf_base.proofs.Lists.{all_joined as all_both}
use Rattle.vpf_vectors.specs.declared.cells.rows.RingRow.{RingRow}
use Rattle.vpf_vectors.specs.Inner.HeadLaws.{one, eight}
use Rattle.vpf_drill.specs.Inner.Worked.Held.{worked_index_bytes}
use Rattle.vpf_drill.specs.Inner.Worked.Request.{worked_parts, worked_request, worked_tile_tables}
use Rattle.vpf_drill.specs.Inner.Worked.Tables.{worked_classes, worked_edges, worked_roads, worked_tables, worked_tiles}
use Rattle.vpf_drill.proofs.tiled_sizes.FileSizes.{HasFewRows, IsShortTable, loads, made_load, none_passed}
use Rattle.vpf_drill.proofs.tiled_sizes.GridTables.{faces_short, nodes_short, rings_short, short_by}
use Rattle.vpf_drill.proofs.tiled_sizes.TableSizes.{IsShort, no_limit}
use Rattle.vpf_drill.proofs.worked.HeaderLemmas.{classes_are, roads_are}

-- what is cut, and the plan
abbrev cut_primitives : Primitives
cut_primitives = primitives_of worked_tables

abbrev by_plan : ℕ → ℕ
by_plan = cut_plan worked_parts worked_tile_tables

-- the tables of one tile
abbrev tables_of_tile : List ℕ → ℕ → List NamedTable
tables_of_tile path t = tile_tables path worked_tables cut_primitives by_plan t

-- the tables of the library are the table of tiles, and those of the two tiles
abbrev cut_list : List NamedTable
cut_list = tileref_table worked_tiles ∷ (tables_of_tile (codes "roads/west") 1 ++ tables_of_tile (codes "roads/east") 2)

cut_are : cut_tables worked_request worked_parts worked_tile_tables ≡ cut_list
cut_are = refl

-- the rows of each are short
tiles_short : IsShort (tiles_made worked_tiles)
unfolding canonical_text columns_text column_text row_text
tiles_short = record { text = rw (one, eight) (omega arith); rows = (omega arith, (omega arith, tt)) }

edges_text : length (canonical_text (head_with_kinds (edge_kinds worked_edges.head.columns) worked_edges.head)) ≤ 500
unfolding canonical_text columns_text column_text
edges_text = rw one (omega arith)

edges_short : (t : ℕ) → IsShort (edges_made worked_edges cut_primitives by_plan t)
edges_short t =
    short_by (edges_made worked_edges cut_primitives by_plan t) edges_text (refl, (refl, (refl, (refl, (refl, (refl, (refl, (refl, tt)))))))) (omega arith)

-- the rings, as the table has them
ring_list : List RingRow
ring_list = record { face_id = 1; start_edge = 1 } ∷ record { face_id = 2; start_edge = 1 } ∷ record { face_id = 3; start_edge = 2 } ∷ []

-- so are those of all tables
tile_short : (path : List ℕ) (t : ℕ) → AllByRecursion IsShortTable (tables_of_tile path t)
tile_short path t = (
  edges_short t,
  (
    faces_short (1 ∷ 2 ∷ 3 ∷ []) cut_primitives by_plan t,
    (
      rings_short ring_list cut_primitives by_plan t,
      (nodes_short (1 ∷ 1 ∷ []) cut_primitives by_plan t, tt),
    ),
  ),
)

all_short : AllByRecursion IsShortTable cut_list
all_short = (
  tiles_short,
  all_both IsShortTable (tables_of_tile (codes "roads/west") 1) (tables_of_tile (codes "roads/east") 2) (tile_short (codes "roads/west") 1)
      (tile_short (codes "roads/east") 2),
)

-- and few
are_few : NamedTable → Bool
are_few table = nat_le (length table.grid.rows) 3

few_tested : (tables : List NamedTable) → list_all are_few tables ≡ true → AllByRecursion HasFewRows tables
unfolding are_few
few_tested [] h = tt
few_tested (table ∷ tables) h =
    let p = both (are_few table) (list_all are_few tables) h in
    (let low : nat_le (length table.grid.rows) 3 ≡ true = p.0 in grind (arith, nat_tests), few_tested tables p.1)

all_few : AllByRecursion HasFewRows cut_list
unfolding are_few code tile_in edge_in sign_in flip without_edge
all_few = few_tested cut_list refl

-- so they pass no limit
pub fits : first_limit_of (cut_tables worked_request worked_parts worked_tile_tables) ≡ None
fits = subst (λ (tables : List NamedTable). first_limit_of tables ≡ None) (sym cut_are) (none_passed cut_list all_short all_few)

-- and their files have few bytes
pub cut_load : bytes_in (files_made (cut_tables worked_request worked_parts worked_tile_tables)) ≤ 20000
unfolding code tile_in edge_in sign_in flip without_edge
cut_load =
    let few : loads cut_list ≡ 6696 = refl in
    subst (λ (tables : List NamedTable). bytes_in (files_made tables) ≤ 20000) (sym cut_are) (omega (arith, made_load cut_list all_short, few))

-- ---- the features

-- the schema table passes no limit, nor does the feature table
classes_limit : first_limit worked_classes ≡ None
unfolding row_text
classes_limit =
    no_limit worked_classes (record { text = subst (λ (t : List ℕ). length t ≤ 500) (sym classes_are) (omega arith); rows = (omega arith, tt) }) (omega arith)

roads_limit : first_limit worked_roads ≡ None
roads_limit =
    no_limit worked_roads (short_by worked_roads (subst (λ (t : List ℕ). length t ≤ 500) (sym roads_are) (omega arith)) (refl, (refl, tt)) (omega arith))
    (omega arith)

-- the files of the features
abbrev pub feature_list : List File
feature_list =
    loaded_file (codes "roads/fcs") (canonical_table worked_classes)
    ∷ loaded_file (codes "roads/road.lft") (canonical_table worked_roads)
    ∷ loaded_file (codes "roads/lanes.ti") worked_index_bytes
    ∷ []

-- .. are those that are made
pub features_are : cut_features worked_request worked_parts ≡ Ok feature_list
features_are = rw (classes_limit, roads_limit) refl

pub features_fit : IsOk (cut_features worked_request worked_parts)
features_fit = subst IsOk (sym features_are) refl
