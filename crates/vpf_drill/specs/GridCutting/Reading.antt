-- What is read of the library of the grid of n by n cells to cut it into tiles.
use Rattle.std.specs.Prelude.{◌≡◌, ℕ, ◌≤◌, ◌%◌, IsUtf8, List, [], ◌∷◌, None, Some, Ok, codes}
use Rattle.std.specs.List.{AllByRecursion}
use Rattle.vpf_prims.specs.Coverages.{tile_at}
use Rattle.vpf_prims.specs.Tables.{TileTables}
use Rattle.vpf_library_files.specs.Loading.Loading.{LoadedTile, loaded_tile, untiled_loaded}
use Rattle.vpf_vectors.specs.Cells.Rows.{edge_rows, face_rows, ring_rows, node_rows}
use Rattle.vpf_vectors.specs.Heads.{face_head, node_head}
use Rattle.vpf_vectors.specs.Library.{coverage_tables}
use Rattle.vpf_vectors.specs.Tables.{edge_table, pair_table, ring_table}
use Rattle.vpf_library_commands.specs.declared.requesting.MakeRequest.{MakeRequest}
use Rattle.vpf_library_commands.specs.Check.{coverage_finding}
use Rattle.vpf_library_commands.specs.Make.{make_request}
use Rattle.vpf_library_commands.specs.Tile.{TileParts, parts_finding, read_parts}
use Rattle.vpf_library_commands.specs.Reading.{no_features}
use Rattle.vpf_drill.specs.GridCutting.Held.{grid_held, grid_out, cut_plan_grid, read_alone, tileref_grid}

-- the request that its coverage `g` is cut into tiles, as a library in the folder beside it
abbrev pub grid_request : MakeRequest
grid_request = record { lib = codes "grid"; cov = codes "g"; out = grid_out }

-- the words of it
abbrev pub grid_words : List (List ℕ)
grid_words = codes "grid" ∷ codes "g" ∷ codes "out" ∷ []

-- they are text, and spell it
abbrev pub GridIsAsked : Type 0
GridIsAsked = AllByRecursion IsUtf8 grid_words × (make_request grid_words ≡ Some grid_request)

-- the tables of the coverage
abbrev pub grid_tile : ℕ → LoadedTile
grid_tile n =
    loaded_tile (read_alone (codes "grid/g/edg") (edge_table (edge_rows n))) (read_alone (codes "grid/g/fac") (pair_table face_head 1 (face_rows n)))
    (read_alone (codes "grid/g/rng") (ring_table (ring_rows n))) (read_alone (codes "grid/g/cnd") (pair_table node_head 1 (node_rows n))) None

-- the coverage, which has no features, the table of tiles and the plan
abbrev pub grid_parts : ℕ → TileParts
grid_parts n = record {
  coverage = untiled_loaded (grid_tile n);
  schema = no_features;
  tileref = read_alone (codes "grid/tileref/tileref.aft") (tileref_grid n);
  plan = read_alone (codes "grid/g/plan") (cut_plan_grid n);
}

-- the tables of the coverage, whose files are read first
abbrev pub grid_tile_tables : ℕ → TileTables
grid_tile_tables n = record { first = 0; tables = coverage_tables n }

-- these are read of the files of the grid
abbrev pub GridIsReadToCut : Type 0
GridIsReadToCut = (n : ℕ) → n % 2 ≡ 0 → 2 ≤ n → n ≤ 200 → (read_parts (grid_held n) grid_request.lib grid_request.cov 0).0 ≡ Ok (grid_parts n)

-- the coverage has these tables
abbrev pub GridHasTables : Type 0
GridHasTables = (n : ℕ) → tile_at (grid_parts n).coverage.coverage 0 ≡ Some (grid_tile_tables n)

-- nothing is found in it
abbrev pub GridIsUnfound : Type 0
GridIsUnfound = (n : ℕ) → 1 ≤ n → n ≤ 200 → coverage_finding (grid_parts n).coverage.coverage ≡ None

-- nor in all that is read to cut it
abbrev pub GridPartsAreUnfound : Type 0
GridPartsAreUnfound = (n : ℕ) → 1 ≤ n → n ≤ 200 → parts_finding grid_request (grid_parts n) ≡ None
