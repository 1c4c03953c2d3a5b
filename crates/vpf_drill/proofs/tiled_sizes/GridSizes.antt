-- The files of the tiled library of the grid: they pass no limit, and a run reads them all.
use Rattle.std.proofs.Common.{[], ◌≡◌, ◌≤◌, ℕ, ◌+◌, ◌*◌, Bool, true, false, eqb, List, ◌∷◌, length, map, sym, ◌∙◌, arith}
use Rattle.std.specs.Prelude.{if◌then◌else◌}
use Rattle.std.specs.List.{AllByRecursion, range_with_len}
use Rattle.std.proofs.lemmas.Bool.{eq-eqb, eqb-true}
use Rattle.std.proofs.lemmas.List.FromFn.{length-map-range_with_len, length-range_with_len}
use Rattle.vpf_prims.specs.Lists.{kth}
use Rattle.vpf_prims.specs.Primitives.{Primitives, RingPrimitive}
use Rattle.vpf_prims.specs.Reading.{PrimitiveTables}
use Rattle.vpf_prims.specs.References.{id_of}
use Rattle.vpf_library_files.specs.Tileref.Stops.{path_texts}
use Rattle.vpf_library_files.specs.Loading.Loading.{within}
use Rattle.vpf_tiling.specs.Presence.{present_edges, present_nodes}
use Rattle.vpf_tiling.specs.Inner.RankLaws.{numbered_many}
use Rattle.vpf_tiling.specs.Ranks.{up_to}
use Rattle.vpf_tiling.specs.Tiles.{is_made, tiled_rings}
use Rattle.vpf_primitive_tables.specs.TileTables.Grids.{edges_made, faces_made, faces_of_tile, nodes_made, rings_made, tiles_made}
use Rattle.vpf_library_files.specs.TableFiles.Adding.{NamedTable}
use Rattle.vpf_library_commands.specs.Tables.{all_tile_tables, tables_if_made, tile_tables}
use Rattle.vpf_vectors.specs.Cells.Numbers.{edges, faces}
use Rattle.vpf_vectors.specs.Cells.Rows.{edge_rows, face_rows, node_rows, ring_rows}
use Rattle.vpf_vectors.specs.Inner.GridCoverage.Coverage.{grid_edge, grid_face, grid_primitives, grid_ring}
use Rattle.vpf_vectors.specs.Library.{coverage_tables, tiles}
use Rattle.vpf_vectors.specs.Tables.{tile_cells, grid_tileref}
use Rattle.vpf_vectors.specs.Inner.SmallLaws.{few_edges, few_faces, few_tiles}
use Rattle.vpf_drill.specs.Inner.TiledSizes.Sizes.{GridIsLoaded, GridPassesNoLimit, grid_library_tables}
use Rattle.vpf_library_commands.specs.PairLaws.{all_of_lists}
use Rattle.vpf_drill.proofs.tiled_sizes.Counting.{count_less, count_made, count_same, summed}
use Rattle.vpf_drill.proofs.tiled_sizes.PresentCounts.{HaveOneRing, all_darts, all_edges, all_faces, darts_few, darts_in, edges_few, edges_in, edges_many, faces_few, faces_in, faces_many, nodes_few, rings_few}
use Rattle.vpf_drill.proofs.tiled_sizes.GridTables.{edges_short, faces_short, nodes_short, rings_short, tileref_short}
use Rattle.vpf_drill.proofs.tiled_sizes.FileSizes.{HasFewRows, IsShortTable, loads, loads_of_lists, made_load, none_passed}

-- ---- how much the grid has

-- each of its faces has one ring
one_ring : (n : ℕ) → HaveOneRing (grid_primitives n)
one_ring n f =
    let ids = range_with_len 1 (faces n) in
    let made = count_made (λ (r : RingPrimitive). eqb (id_of r.face) f) grid_ring ids in
    let less = count_less (λ k. eqb k f) (λ k. eqb f k) (λ k h. eq-eqb f k (sym (eqb-true k f h))) ids in
    omega (arith, made, less, count_same f 1 (faces n))

grid_edges : (n : ℕ) → n ≤ 200 → length (grid_primitives n).edges ≤ 100000
grid_edges n h = omega (arith, length-map-range_with_len (grid_edge n) 1 (edges n), few_edges n h)

grid_faces : (n : ℕ) → n ≤ 200 → length (grid_primitives n).faces ≤ 50000
grid_faces n h = omega (arith, length-map-range_with_len grid_face 1 (faces n), few_faces n h)

-- ---- the tables of a tile

-- what the tables of a tile of so many edges, darts and faces come to at most
abbrev most_by : (edges darts faces : ℕ) → ℕ
most_by edges darts faces = 2192 + 112 * edges + 224 * darts + 224 * faces

-- what those of some tiles come to, in all
summed_most : (whole edges darts faces : ℕ → ℕ) → ((t : ℕ) → whole t ≤ most_by (edges t) (darts t) (faces t)) → (ts : List ℕ)
    → summed whole ts ≤ 2192 * length ts + 112 * summed edges ts + 224 * summed darts ts + 224 * summed faces ts
summed_most whole edges darts faces most [] = omega arith
summed_most whole edges darts faces most (t ∷ ts) =
    let here = most t in
    let rest = summed_most whole edges darts faces most ts in
    omega (arith, here, rest)

-- how many rows they have
record HaveRows (T : PrimitiveTables) (c : Primitives) (plan : ℕ → ℕ) (t : ℕ) : Type 0 where
  edg : length (edges_made T.edg c plan t).rows ≡ edges_in c plan t
  fac : length (faces_made T.fac c plan t).rows ≡ 1 + faces_in c plan t
  rng : length (rings_made T.rng c plan t).rows ≤ darts_in c plan t + faces_in c plan t
  cnd : length (nodes_made T.cnd c plan t).rows ≤ darts_in c plan t

have_rows : (T : PrimitiveTables) (c : Primitives) (plan : ℕ → ℕ) (t : ℕ) → HaveOneRing c → HaveRows T c plan t
have_rows T c plan t one =
    let faces : length (faces_made T.fac c plan t).rows ≡ length (faces_of_tile c plan t) = numbered_many _ 1 (faces_of_tile c plan t) in
    let rings : length (rings_made T.rng c plan t).rows ≡ length (tiled_rings c plan t) = numbered_many _ 1 (tiled_rings c plan t) in
    let nodes : length (nodes_made T.cnd c plan t).rows ≡ length (present_nodes c plan t) = numbered_many _ 1 (present_nodes c plan t) in
    record {
      edg = numbered_many _ 1 (present_edges c plan t) ∙ edges_many c plan t;
      fac = omega (arith, faces, faces_many c plan t);
      rng = omega (arith, rings, rings_few c plan one t);
      cnd = omega (arith, nodes, nodes_few c plan t);
    }

-- the tables of a tile of the grid, where it has some
abbrev grid_tables_if_made : (n : ℕ) → (cov : List ℕ) → List (List ℕ) → (ℕ → ℕ) → (last t : ℕ) → List NamedTable
grid_tables_if_made n cov paths plan last t = tables_if_made cov paths (coverage_tables n) (grid_primitives n) plan last t

-- what they come to at most
abbrev tile_most : (n : ℕ) → (ℕ → ℕ) → ℕ → ℕ
tile_most n plan t = most_by (edges_in (grid_primitives n) plan t) (darts_in (grid_primitives n) plan t) (faces_in (grid_primitives n) plan t)

tile_loads : (n : ℕ) (folder : List ℕ) (plan : ℕ → ℕ) (t : ℕ)
    → loads (tile_tables folder (coverage_tables n) (grid_primitives n) plan t) ≤ tile_most n plan t
tile_loads n folder plan t =
    let r = have_rows (coverage_tables n) (grid_primitives n) plan t (one_ring n) in
    omega (arith, r.edg, r.fac, r.rng, r.cnd)

made_loads : (n : ℕ) (cov : List ℕ) (paths : List (List ℕ)) (plan : ℕ → ℕ) (last t : ℕ)
    → loads (grid_tables_if_made n cov paths plan last t) ≤ tile_most n plan t
made_loads n cov paths plan last t = by (is_made (grid_primitives n) plan last t)
  where
    by : (made : Bool) → loads (if made then tile_tables (within cov (kth paths t [])) (coverage_tables n) (grid_primitives n) plan t else []) ≤ tile_most n plan t
    by true = tile_loads n (within cov (kth paths t [])) plan t
    by false = omega arith

-- they are short, and have few rows
made_short : (n : ℕ) (cov : List ℕ) (paths : List (List ℕ)) (plan : ℕ → ℕ) (last t : ℕ)
    → AllByRecursion IsShortTable (grid_tables_if_made n cov paths plan last t)
made_short n cov paths plan last t = by (is_made (grid_primitives n) plan last t)
  where
    by : (made : Bool)
        → AllByRecursion IsShortTable (if made then tile_tables (within cov (kth paths t [])) (coverage_tables n) (grid_primitives n) plan t else [])
    by true = (
      edges_short (edge_rows n) (grid_primitives n) plan t,
      (
        faces_short (face_rows n) (grid_primitives n) plan t,
        (rings_short (ring_rows n) (grid_primitives n) plan t, (nodes_short (node_rows n) (grid_primitives n) plan t, tt)),
      ),
    )
    by false = tt

made_few : (n : ℕ) (cov : List ℕ) (paths : List (List ℕ)) (plan : ℕ → ℕ) (last t : ℕ) → n ≤ 200
    → AllByRecursion HasFewRows (grid_tables_if_made n cov paths plan last t)
made_few n cov paths plan last t h =
    let c = grid_primitives n in
    let r = have_rows (coverage_tables n) c plan t (one_ring n) in
    let e = edges_few c plan t in
    let d = darts_few c plan t in
    let f = faces_few c plan t in
    let edges = grid_edges n h in
    let faces = grid_faces n h in
    let edg = r.edg in
    let fac = r.fac in
    let rng = r.rng in
    let cnd = r.cnd in
    by (is_made c plan last t) (omega (arith, edg, e, edges)) (omega (arith, fac, f, faces)) (omega (arith, rng, d, f, edges, faces)) (omega (arith, cnd, d, edges))
  where
    by : (made : Bool) → length (edges_made (coverage_tables n).edg (grid_primitives n) plan t).rows ≤ 500000
        → length (faces_made (coverage_tables n).fac (grid_primitives n) plan t).rows ≤ 500000
        → length (rings_made (coverage_tables n).rng (grid_primitives n) plan t).rows ≤ 500000
        → length (nodes_made (coverage_tables n).cnd (grid_primitives n) plan t).rows ≤ 500000
        → AllByRecursion HasFewRows (if made then tile_tables (within cov (kth paths t [])) (coverage_tables n) (grid_primitives n) plan t else [])
    by true edg fac rng cnd = (edg, (fac, (rng, (cnd, tt))))
    by false edg fac rng cnd = tt

-- ---- the library

-- the rows of its table of tiles
tileref_rows : (n : ℕ) → length (tiles_made (grid_tileref (tiles n))).rows ≡ tiles n
tileref_rows n = numbered_many _ 1 (map tile_cells (range_with_len 1 (tiles n))) ∙ length-map-range_with_len tile_cells 1 (tiles n)

all_short : (n : ℕ) (cov : List ℕ) (plan : ℕ → ℕ) → n ≤ 200 → AllByRecursion IsShortTable (grid_library_tables n cov plan)
all_short n cov plan h =
    let tileref = grid_tileref (tiles n) in
    let paths = path_texts tileref in
    let last = length tileref.rows in (
      tileref_short (tiles n) (few_tiles n h),
      all_of_lists IsShortTable (grid_tables_if_made n cov paths plan last) (made_short n cov paths plan last) (up_to last),
    )

pub grid_passes_no_limit : GridPassesNoLimit
grid_passes_no_limit n cov plan h =
    let tileref = grid_tileref (tiles n) in
    let paths = path_texts tileref in
    let last = length tileref.rows in
    let few : length (tiles_made tileref).rows ≤ 500000 = omega (arith, tileref_rows n, few_tiles n h) in
    none_passed (grid_library_tables n cov plan) (all_short n cov plan h) (
      few,
      all_of_lists HasFewRows (grid_tables_if_made n cov paths plan last) (λ t. made_few n cov paths plan last t h) (up_to last),
    )

pub grid_is_loaded : GridIsLoaded
grid_is_loaded n cov plan h =
    let c = grid_primitives n in
    let tileref = grid_tileref (tiles n) in
    let paths = path_texts tileref in
    let last = length tileref.rows in
    let made = grid_tables_if_made n cov paths plan last in
    let rows : last ≡ tiles n = length-map-range_with_len tile_cells 1 (tiles n) in
    let all : loads (all_tile_tables cov paths (coverage_tables n) c plan last) ≡ summed (λ t. loads (made t)) (up_to last) =
    loads_of_lists made (up_to last) in
    let parts = summed_most (λ t. loads (made t)) (edges_in c plan) (darts_in c plan) (faces_in c plan) (made_loads n cov paths plan last) (up_to last) in
    omega (
      arith,
      made_load (grid_library_tables n cov plan) (all_short n cov plan h),
      tileref_rows n,
      rows,
      all,
      parts,
      length-range_with_len 1 last,
      all_edges c plan last,
      all_darts c plan last,
      all_faces c plan last,
      grid_edges n h,
      grid_faces n h,
      few_tiles n h,
    )
