-- What is read of the files of the grid.
use Rattle.std.proofs.Common.{◌≡◌, ℕ, ◌%◌, ◌≤◌, Ok, None, length, refl, arith}
use Rattle.std.proofs.lemmas.List.Elements.{recursion_from_All}
use Rattle.vpf_base.specs.Limits.{most_bytes}
use Rattle.vpf_table.specs.Canonical.{canonical_table}
use Rattle.vpf_table.specs.Grid.{Grid}
use Rattle.vpf_table.specs.Reading.{table_of}
use Rattle.vpf_write.specs.Writing.{first_limit}
use Rattle.vpf_write.specs.Inner.WholeLaws.{within_limits}
use Rattle.vpf_library_files.specs.Inner.Tileref.Laws.{StopsDecide}
use Rattle.vpf_vectors.specs.Cells.Rows.{edge_rows, face_rows, ring_rows, node_rows, plan_rows}
use Rattle.vpf_library_commands.specs.Tile.{read_parts}
use Rattle.vpf_vectors.specs.Heads.{face_head, node_head, plan_head}
use Rattle.vpf_vectors.specs.Library.{GridIsRead, grid_tables, tiles}
use Rattle.vpf_vectors.specs.Tables.{edge_table, pair_table, ring_table}
use Rattle.vpf_vectors.specs.Inner.HeadLaws.{faces_have_pairs, nodes_have_pairs, plan_has_pairs}
use Rattle.vpf_vectors.specs.Inner.LimitLaws.{edges_limit, pairs_limit, rings_limit, tileref_limit}
use Rattle.vpf_vectors.specs.Inner.SmallLaws.{edges_are_few, faces_are_few, homes_are_few, nodes_are_few, rings_are_few}
use Rattle.vpf_drill.specs.GridCutting.Held.{grid_held, cut_plan_grid, tileref_grid}
use Rattle.vpf_drill.specs.GridCutting.Reading.{grid_parts, grid_request}
use Rattle.vpf_drill.proofs.grid_cutting.LoadLemmas.{HoldsParts, parts_come}
use Rattle.vpf_drill.proofs.grid_cutting.ServingLemmas.{some_tiles}
use Rattle.vpf_drill.proofs.grid_cutting.TilerefLemmas.{few_tiles, goes_on}

-- a table that passes no limit is no larger than a file may be
no_larger : (g : Grid) → first_limit g ≡ None → length (canonical_table g) ≤ most_bytes
no_larger g none = (within_limits g none).size_fits

tileref_few : (n : ℕ) → n ≤ 200 → length (canonical_table (tileref_grid n)) ≤ most_bytes
tileref_few n most = let few = few_tiles n most in no_larger (tileref_grid n) (tileref_limit (tiles n) (omega arith))

edges_few : (n : ℕ) → n ≤ 200 → length (canonical_table (edge_table (edge_rows n))) ≤ most_bytes
edges_few n most = no_larger (edge_table (edge_rows n)) (edges_limit (edge_rows n) (edges_are_few n most))

faces_few : (n : ℕ) → n ≤ 200 → length (canonical_table (pair_table face_head 1 (face_rows n))) ≤ most_bytes
faces_few n most = no_larger (pair_table face_head 1 (face_rows n)) (pairs_limit face_head 1 (face_rows n) faces_have_pairs (faces_are_few n most))

rings_few : (n : ℕ) → n ≤ 200 → length (canonical_table (ring_table (ring_rows n))) ≤ most_bytes
rings_few n most = no_larger (ring_table (ring_rows n)) (rings_limit (ring_rows n) (rings_are_few n most))

nodes_few : (n : ℕ) → n ≤ 200 → length (canonical_table (pair_table node_head 1 (node_rows n))) ≤ most_bytes
nodes_few n most = no_larger (pair_table node_head 1 (node_rows n)) (pairs_limit node_head 1 (node_rows n) nodes_have_pairs (nodes_are_few n most))

plan_few : (n : ℕ) → n ≤ 200 → length (canonical_table (cut_plan_grid n)) ≤ most_bytes
plan_few n most = no_larger (cut_plan_grid n) (pairs_limit plan_head 2 (plan_rows n) plan_has_pairs (homes_are_few n most))

-- the files are there
parts_there : GridIsRead → StopsDecide → (n : ℕ) → n % 2 ≡ 0 → 2 ≤ n → n ≤ 200
    → HoldsParts (grid_held n) grid_request.lib grid_request.cov (edge_table (edge_rows n)) (pair_table face_head 1 (face_rows n)) (ring_table (ring_rows n))
    (pair_table node_head 1 (node_rows n)) (tileref_grid n) (cut_plan_grid n)
parts_there read stops n even least most =
    let r = recursion_from_All (λ t. table_of (canonical_table t.1) ≡ Ok t.1) (grid_tables n) (read n even least most) in
    record {
      edg_there = record { there = refl; read = r.1.0; one_length = refl; few = edges_few n most };
      fac_there = record { there = refl; read = r.1.1.0; one_length = refl; few = faces_few n most };
      rng_there = record { there = refl; read = r.1.1.1.0; one_length = refl; few = rings_few n most };
      cnd_there = record { there = refl; read = r.1.1.1.1.0; one_length = refl; few = nodes_few n most };
      no_entities = refl;
      no_schema = refl;
      tileref_there = record { there = refl; read = r.0; one_length = refl; few = tileref_few n most };
      plan_there = record { there = refl; read = r.1.1.1.1.1.0; one_length = refl; few = plan_few n most };
      goes_on = goes_on stops (tiles n) (some_tiles n least) (few_tiles n most);
      has_columns = refl;
    }

pub read_to_cut : GridIsRead → StopsDecide → (n : ℕ) → n % 2 ≡ 0 → 2 ≤ n → n ≤ 200
    → (read_parts (grid_held n) grid_request.lib grid_request.cov 0).0 ≡ Ok (grid_parts n)
read_to_cut read stops n even least most =
    parts_come (grid_held n) grid_request.lib grid_request.cov (edge_table (edge_rows n)) (pair_table face_head 1 (face_rows n)) (ring_table (ring_rows n))
    (pair_table node_head 1 (node_rows n)) (tileref_grid n) (cut_plan_grid n) (parts_there read stops n even least most)
