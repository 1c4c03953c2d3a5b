-- What is read of the library of the worked coverage to cut it into tiles.
use Rattle.std.specs.Prelude.{◌≡◌, ℕ, IsUtf8, List, [], ◌∷◌, length, None, Ok, Some, codes}
use Rattle.std.specs.List.{AllByRecursion}
use Rattle.vpf_prims.specs.Coverages.{tile_at}
use Rattle.vpf_prims.specs.Tables.{TileTables}
use Rattle.vpf_library_files.specs.Loading.Loading.{LoadedTile, loaded_tile, untiled_loaded}
use Rattle.vpf_library_commands.specs.declared.requesting.MakeRequest.{MakeRequest}
use Rattle.vpf_library_commands.specs.CutBy.{plan_refusal}
use Rattle.vpf_library_commands.specs.Make.{make_request}
use Rattle.vpf_library_commands.specs.Tile.{TileParts, parts_finding, read_parts}
use Rattle.vpf_drill.specs.GridCutting.Held.{read_alone}
use Rattle.vpf_drill.specs.Inner.Worked.Held.{worked_held, worked_out}
use Rattle.vpf_drill.specs.Inner.Worked.Tables.{worked_edges, worked_faces, worked_nodes, worked_plan, worked_rings, worked_schema, worked_tables, worked_tiles}

-- the request that its coverage `roads` is cut into tiles, as a library in the folder beside it
abbrev pub worked_request : MakeRequest
worked_request = record { lib = codes "land"; cov = codes "roads"; out = worked_out }

-- the words of it
abbrev pub worked_words : List (List ℕ)
worked_words = codes "land" ∷ codes "roads" ∷ codes "out" ∷ []

-- they are text, and spell it
abbrev pub WorkedIsAsked : Type 0
WorkedIsAsked = AllByRecursion IsUtf8 worked_words × (make_request worked_words ≡ Some worked_request)

-- the tables of the coverage
abbrev pub worked_tile : LoadedTile
worked_tile =
    loaded_tile (read_alone (codes "land/roads/edg") worked_edges) (read_alone (codes "land/roads/fac") worked_faces)
    (read_alone (codes "land/roads/rng") worked_rings) (read_alone (codes "land/roads/cnd") worked_nodes) None

-- the coverage, its features, the table of tiles and the plan
abbrev pub worked_parts : TileParts
worked_parts = record {
  coverage = untiled_loaded worked_tile;
  schema = worked_schema;
  tileref = read_alone (codes "land/tileref/tileref.aft") worked_tiles;
  plan = read_alone (codes "land/roads/plan") worked_plan;
}

-- the tables of the coverage, whose files are read first
abbrev pub worked_tile_tables : TileTables
worked_tile_tables = record { first = 0; tables = worked_tables }

-- these are read of the files of the worked coverage
abbrev pub WorkedIsRead : Type 0
WorkedIsRead = (read_parts worked_held worked_request.lib worked_request.cov 0).0 ≡ Ok worked_parts

-- the coverage has these tables
abbrev pub WorkedHasTables : Type 0
WorkedHasTables = tile_at worked_parts.coverage.coverage 0 ≡ Some worked_tile_tables

-- nothing is found in all that is read to cut it
abbrev pub WorkedIsUnfound : Type 0
WorkedIsUnfound = parts_finding worked_request worked_parts ≡ None

-- nothing speaks against its plan
abbrev pub WorkedServes : Type 0
WorkedServes = plan_refusal worked_tables worked_plan (length worked_tiles.rows) ≡ None
