-- The files of a tiled library as the coverage that they are, in whatever folder holds exactly these files (MIL-STD-2407, 5.2.3, tiled coverages
-- and cross-tile topology).
use Rattle.std.specs.Prelude.{◌≡◌, ◌≢◌, ◌≤◌, ◌↔◌, ℕ, true, IsUtf8, List, [], Some, length}
use Rattle.vpf_source.specs.Files.{Files}
use Rattle.vpf_source.specs.declared.file.File.{File}
use Rattle.vpf_table.specs.Grid.{Grid}
use Rattle.vpf_darts.specs.Cycles.{IsListing}
use Rattle.vpf_darts.specs.Maps.{without}
use Rattle.vpf_prims.specs.Libraries.{library_of}
use Rattle.vpf_prims.specs.Primitives.{Library, Primitives, untiled}
use Rattle.vpf_prims.specs.Reading.{PrimitiveTables, primitives_of}
use Rattle.vpf_numbers.specs.Matching.{HaveColumns}
use Rattle.vpf_library_files.specs.Loading.Holding.{HoldsCoverage, bytes_in}
use Rattle.vpf_library_files.specs.Loading.Loading.{LoadedCoverage, most_loaded}
use Rattle.vpf_wing.specs.Links.{links_of}
use Rattle.vpf_tiling_laws.specs.Following.{follow}
use Rattle.vpf_cross.specs.Agreeing.{LibraryAgrees}
use Rattle.vpf_tiling_laws.specs.Tracing.{IsTrace, map_of_library, tile_lines}
use Rattle.vpf_tiling.specs.Presence.{copy_in, coverage_map, dart_name, is_present, next_of}
use Rattle.vpf_tiling.specs.Tiles.{tiled_library}
use Rattle.vpf_tiling_laws.specs.Tiled.Names.{named_map}
use Rattle.vpf_tiling_laws.specs.Gluing.Glued.{glued, renumbered, tiles_of_faces}
use Rattle.vpf_tiling_laws.specs.Gluing.Whole.{whole_named, whole_of}
use Rattle.vpf_tiling.specs.Tileable.Planning.{plan_of}
use Rattle.vpf_tiler.specs.Inner.TiledFiles.Folders.{HoldsExactly}
use Rattle.vpf_tiler.specs.CutBy.{names_of_faces}

-- what is cut into tiles: an untiled coverage, the tile that its plan names for each face, and how many tiles there are
pub record Tiling : Type 0 where
  pub coverage : Primitives
  pub plan : ℕ → ℕ
  pub tiles : ℕ

-- the same by the tables of the coverage, its plan, and the table of tiles
abbrev pub tiling_of : PrimitiveTables → (plan tileref : Grid) → Tiling
tiling_of tables plan tileref = record {
  coverage = primitives_of tables;
  plan = plan_of (names_of_faces tables plan);
  tiles = length tileref.rows;
}

-- a folder of a tree holds exactly these files, which have no more bytes in all than a run reads; the name of the folder is text, and the coverage
-- in it has a name
pub record AreInFolder (held : Files) (folder cov : List ℕ) (files : List File) : Type 0 where
  pub folder_text : IsUtf8 folder
  pub named : cov ≢ []
  pub exactly : HoldsExactly held folder files
  pub few : bytes_in files ≤ most_loaded

-- it is so of each folder that holds exactly these files, a coverage of this name
abbrev pub InEachFolder : (cov : List ℕ) → List File → (Files → List ℕ → Type 0) → Type 0
InEachFolder cov files P = (held : Files) (folder : List ℕ) → AreInFolder held folder cov files → P held folder

-- it is so of the library of whatever coverage such a folder holds
abbrev pub OfEachCoverage : (cov : List ℕ) → List File → (Library → Type 0) → Type 0
OfEachCoverage cov files P =
    InEachFolder cov files (λ held folder. (loaded : LoadedCoverage) → HoldsCoverage held folder cov loaded → P (library_of loaded.coverage))

-- a folder of a tree holds a coverage in tiles: its columns are right and the same in all tiles, its rows agree, and they say what the tiled
-- library does
pub record IsHeldInTiles (w : Tiling) (cov : List ℕ) (held : Files) (folder : List ℕ) : Type 0 where
  pub loaded : LoadedCoverage
  pub holds : HoldsCoverage held folder cov loaded
  pub columns : HaveColumns loaded.coverage
  pub agrees : LibraryAgrees (library_of loaded.coverage)
  pub says : library_of loaded.coverage ≡ tiled_library w.coverage w.plan w.tiles

-- a library goes on as the coverage does: each copy of a dart is followed by the home copy of the dart's next, and the map of the library is that
-- of the coverage with each dart called by its name
pub record GoesOnAs (w : Tiling) (L : Library) : Type 0 where
  pub follows : (t d : ℕ) → is_present w.coverage w.plan t d ≡ true
      → follow (links_of L) (copy_in w.coverage w.plan t d) ≡ Some (dart_name w.coverage w.plan (next_of w.coverage d))
  pub named : map_of_library L ≡ named_map w.coverage w.plan (coverage_map w.coverage)

-- these are the boundary cycles of an untiled coverage without its lines between tiles, each dart called by its name in the tiles
abbrev pub AreNamedCycles : Primitives → (ℕ → ℕ) → List (List ℕ) → Type 0
AreNamedCycles c plan lists = let M = named_map c plan (without (coverage_map c) (tile_lines (untiled c))) in IsListing M.next M.live lists

-- a library has the boundary cycles of the coverage, lines between tiles passed over: exactly the same lists are the listing of both
abbrev pub HasCyclesOf : Tiling → Library → Type 0
HasCyclesOf w L = (lists : List (List ℕ)) → IsTrace L lists ↔ AreNamedCycles w.coverage w.plan lists

-- a library is glued to the coverage, renumbered, and its plan names the same tiles
pub record IsGluedTo (w : Tiling) (L : Library) : Type 0 where
  pub rows : glued L ≡ renumbered w.coverage w.plan w.tiles
  pub plan : tiles_of_faces (whole_of L) ≡ tiles_of_faces (whole_named w.coverage w.plan w.tiles)
