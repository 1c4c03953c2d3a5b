-- What reading a coverage comes to, tiled or not.
use Rattle.std.proofs.Common.{◌≡◌, ◌∙◌, inl, inr, ℕ, ◌+◌, Bool, true, false, List, [], ◌∷◌, ◌++◌, length, Option, Some, None, Ok, Err, refl, sym, ap, subst}
use Rattle.std.specs.Prelude.{Result, is_some}
use Rattle.std.specs.List.{list_any}
use Rattle.std.proofs.lemmas.List.{append-nil}
use Rattle.vpf_source.specs.Files.{Files}
use Rattle.vpf_source.specs.declared.file.File.{File}
use Rattle.vpf_library_files.specs.Inner.Tileref.Laws.{StopsDecide}
use Rattle.vpf_library_files.specs.Tileref.Stops.{path_texts}
use Rattle.vpf_library_files.specs.declared.loading.loading.LoadStop.{LoadStop}
use Rattle.vpf_library_files.specs.Loading.Loading.{LoadedCoverage, LoadedTable, LoadedTile, has_some, placed, read_coverage, read_tile, read_tiled, read_tileref, read_tiles, tiled_loaded, tileref_name, tiles_files, untiled_loaded, within}
use Rattle.vpf_library_files.specs.Loading.Holding.{AreTilesFiles}
use Rattle.vpf_library_files.specs.Loading.Loads.{AddsTile, AddsTiles, AreFilesOfTiles, Comes, LoadsAs, LoadsCoverage, LoadsTiled, LoadsTileref, ReadsStop}
use Rattle.vpf_library_files.proofs.loading.LoadLemmas.{stops_all}

-- the files of tiles, each tile where the first of its files stands
pub are_tiles : (folder : List ℕ) (at : ℕ) (paths : List (List ℕ)) (tiles : List (Option LoadedTile)) → AreFilesOfTiles folder paths tiles
    → AreTilesFiles folder at paths (placed at tiles) (tiles_files tiles)
are_tiles folder at [] [] h = refl
are_tiles folder at [] (tile ∷ tiles) h = absurd h
are_tiles folder at (path ∷ paths) [] h = absurd h
are_tiles folder at (path ∷ paths) (None ∷ tiles) h = are_tiles folder at paths tiles h.1
are_tiles folder at (path ∷ paths) (Some tile ∷ tiles) h =
    (tile.files, tiles_files tiles, refl, refl, h.0, are_tiles folder (at + length tile.files) paths tiles h.1)

pub placed_some : (at : ℕ) (tiles : List (Option LoadedTile)) → list_any is_some (placed at tiles) ≡ has_some tiles
placed_some at [] = refl
placed_some at (None ∷ tiles) = placed_some at tiles
placed_some at (Some tile ∷ tiles) = refl

tiles_stop : (held : Files) (lib cov : List ℕ) (n0 n1 n2 : ℕ) (stop : LoadStop) (t : LoadedTable) → read_tileref held lib n0 ≡ (Ok t, n1)
    → ReadsStop stop n2 (read_tiles held (within lib cov) (path_texts t.grid) n1) → ReadsStop stop n2 (read_tiled held lib cov n0)
tiles_stop held lib cov n0 n1 n2 stop t e h = rw e (stops_all stop n2 _ _ h)

pub tiled_read : (held : Files) (lib cov : List ℕ) (n0 n1 n2 : ℕ) (t : LoadedTable) (tiles : List (Option LoadedTile)) → read_tileref held lib n0 ≡ (Ok t, n1)
    → read_tiles held (within lib cov) (path_texts t.grid) n1 ≡ (Ok tiles, n2) → has_some tiles ≡ true → read_tiled held lib cov n0 ≡ (Ok (tiled_loaded t tiles), n2)
tiled_read held lib cov n0 n1 n2 t tiles e f some = rw (e, f, some) refl

-- what was read of the tiles, by the paths of the table
abbrev TilesLoad : (told : Option Files) (folder : List ℕ) (paths : List (List ℕ)) (n1 n2 : ℕ) (mid new : List File) → Result Bool LoadStop → Type 0
TilesLoad told folder paths n1 n2 mid new result =
    LoadsAs told (λ held. read_tiles held folder paths n1) (λ (some : Bool) tiles. AddsTiles folder paths mid new some tiles) result n2

tiles_here : (told : Option Files) (folder own : List ℕ) (paths names : List (List ℕ)) (n1 n2 : ℕ) (mid new : List File) (result : Result Bool LoadStop)
    → folder ≡ own → paths ≡ names → TilesLoad told folder paths n1 n2 mid new result → TilesLoad told own names n1 n2 mid new result
tiles_here told folder own paths names n1 n2 mid new result e f h =
    subst (λ (x : List ℕ). TilesLoad told x names n1 n2 mid new result) e (subst (λ (x : List (List ℕ)). TilesLoad told folder x n1 n2 mid new result) f h)

abbrev TilerefComes : (told : Option Files) (lib : List ℕ) (n0 n1 : ℕ) (mid : List File) (paths : List (List ℕ)) → Type 0
TilerefComes told lib n0 n1 mid paths = Comes told (λ held. read_tileref held lib n0) (λ table. LoadsTileref (tileref_name lib) mid paths table) n1

pub tiled_stops : (told now : Option Files) (lib cov folder : List ℕ) (n0 n1 n2 : ℕ) (mid new : List File) (paths : List (List ℕ)) (stop : LoadStop) → now ≡ told
    → folder ≡ within lib cov → TilerefComes told lib n0 n1 mid paths → TilesLoad now folder paths n1 n2 mid new (Err stop)
    → ((held : Files) → told ≡ Some held → ReadsStop stop n2 (read_tiled held lib cov n0))
tiled_stops told now lib cov folder n0 n1 n2 mid new paths stop same is a b held e =
    let h = tiles_here now folder (within lib cov) paths (path_texts a.value.grid) n1 n2 mid new (Err stop) is a.is.names b in
    tiles_stop held lib cov n0 n1 n2 stop a.value (a.comes held e) (h held (same ∙ e))

pub tiled_comes : StopsDecide → (told now : Option Files) (lib cov folder : List ℕ) (n0 n1 n2 : ℕ) (mid new : List File) (paths : List (List ℕ)) (some : Bool) → now ≡ told
    → folder ≡ within lib cov → some ≡ true → TilerefComes told lib n0 n1 mid paths → TilesLoad now folder paths n1 n2 mid new (Ok some)
    → Comes told (λ held. read_tiled held lib cov n0) (λ c. LoadsTiled lib cov new c) n2
tiled_comes decide told now lib cov folder n0 n1 n2 mid new paths some same is has a b =
    let t = a.value in
    let h = tiles_here now folder (within lib cov) paths (path_texts t.grid) n1 n2 mid new (Ok some) is a.is.names b in
    let tiles = h.value in
    let right = (decide t.grid).0 a.is.goes_on in
    let there : has_some tiles ≡ true = sym h.is.tells ∙ has in
    record {
      value = tiled_loaded t tiles;
      is = record {
        all = h.is.behind ∙ ap (λ (x : List File). x ++ tiles_files tiles) a.is.all;
        are = record {
          tileref = t.grid;
          tiles = placed (length t.files) tiles;
          before = t.files;
          behind = tiles_files tiles;
          is = refl;
          are = refl;
          tileref_is = a.is.are;
          right = right.0;
          bounded = right.1;
          tiles_are = are_tiles (within lib cov) (length t.files) (path_texts t.grid) tiles h.is.are;
          some = placed_some (length t.files) tiles ∙ there;
        };
      };
      comes = λ held e. tiled_read held lib cov n0 n1 n2 t tiles (a.comes held e) (h.comes held (same ∙ e)) there;
    }

-- ---- its own folder decides

abbrev OwnComes : (told : Option Files) (lib cov : List ℕ) (n0 n1 : ℕ) (mid : List File) (there : Bool) → Type 0
OwnComes told lib cov n0 n1 mid there = Comes told (λ held. read_tile held (within lib cov) n0) (λ tile. AddsTile (within lib cov) [] mid there tile) n1

pub own_read : (held : Files) (lib cov : List ℕ) (n0 n1 : ℕ) (tile : LoadedTile) → read_tile held (within lib cov) n0 ≡ (Ok (Some tile), n1)
    → read_coverage held lib cov n0 ≡ (Ok (untiled_loaded tile), n1)
own_read held lib cov n0 n1 tile e = rw e refl

pub none_own : (held : Files) (lib cov : List ℕ) (n0 n1 : ℕ) → read_tile held (within lib cov) n0 ≡ (Ok None, n1) → read_coverage held lib cov n0 ≡ read_tiled held lib cov n1
none_own held lib cov n0 n1 e = rw e refl

untiled_of : (told : Option Files) (lib cov : List ℕ) (n0 n1 : ℕ) (mid : List File) (there : Bool) (tile : Option LoadedTile) → there ≡ true
    → AddsTile (within lib cov) [] mid there tile → ((held : Files) → told ≡ Some held → read_tile held (within lib cov) n0 ≡ (Ok tile, n1))
    → Comes told (λ held. read_coverage held lib cov n0) (λ c. LoadsCoverage lib cov mid c) n1
untiled_of told lib cov n0 n1 mid there None so a comes = let e : true ≡ false = sym so ∙ a.tells in absurd cc
untiled_of told lib cov n0 n1 mid there (Some tile) so a comes = record {
  value = untiled_loaded tile;
  is = record { all = a.behind ∙ append-nil tile.files; are = inl (record { tables = tile.tables; is = refl; are = a.are }) };
  comes = λ held e. own_read held lib cov n0 n1 tile (comes held e);
}

pub untiled_comes : (told : Option Files) (lib cov : List ℕ) (n0 n1 : ℕ) (old mid : List File) (there : Bool) → there ≡ true → old ≡ []
    → Comes told (λ held. read_tile held (within lib cov) n0) (λ tile. AddsTile (within lib cov) old mid there tile) n1
    → Comes told (λ held. read_coverage held lib cov n0) (λ c. LoadsCoverage lib cov mid c) n1
untiled_comes told lib cov n0 n1 old mid there so none h =
    let a = subst (λ (x : List File). Comes told (λ held. read_tile held (within lib cov) n0) (λ tile. AddsTile (within lib cov) x mid there tile) n1) none h in
    untiled_of told lib cov n0 n1 mid there a.value so a.is a.comes

-- a coverage without tables of its own is read as a tiled one
no_own : (old mid : List File) (lib cov : List ℕ) (there : Bool) (tile : Option LoadedTile) → there ≡ false → AddsTile (within lib cov) old mid there tile → tile ≡ None
no_own old mid lib cov there None so a = refl
no_own old mid lib cov there (Some tile) so a = let e : false ≡ true = sym so ∙ a.tells in absurd cc

tiled_is : (lib cov : List ℕ) (files : List File) (c : LoadedCoverage) → LoadsTiled lib cov files c → LoadsCoverage lib cov files c
tiled_is lib cov files c h = record { all = h.all; are = inr h.are }

abbrev CoverageLoads : (told : Option Files) (lib cov : List ℕ) (n0 n2 : ℕ) → Result (List File) LoadStop → Type 0
CoverageLoads told lib cov n0 n2 result = LoadsAs told (λ held. read_coverage held lib cov n0) (λ (v : List File) c. LoadsCoverage lib cov v c) result n2

abbrev TiledLoads : (told : Option Files) (lib cov : List ℕ) (n1 n2 : ℕ) → Result (List File) LoadStop → Type 0
TiledLoads told lib cov n1 n2 result = LoadsAs told (λ held. read_tiled held lib cov n1) (λ (v : List File) c. LoadsTiled lib cov v c) result n2

as_tiled : (told now : Option Files) (lib cov : List ℕ) (n0 n1 n2 : ℕ) (result : Result (List File) LoadStop) → now ≡ told
    → ((held : Files) → told ≡ Some held → read_coverage held lib cov n0 ≡ read_tiled held lib cov n1)
    → TiledLoads now lib cov n1 n2 result → CoverageLoads told lib cov n0 n2 result
as_tiled told now lib cov n0 n1 n2 (Ok v) same alike h = record {
  value = h.value;
  is = tiled_is lib cov v h.value h.is;
  comes = λ held e. alike held e ∙ h.comes held (same ∙ e);
}
as_tiled told now lib cov n0 n1 n2 (Err stop) same alike h = λ held e. rw (alike held e) (h held (same ∙ e))

pub tiled_loads : (told now : Option Files) (lib cov : List ℕ) (n0 n1 n2 : ℕ) (old mid : List File) (there : Bool) (result : Result (List File) LoadStop) → now ≡ told
    → there ≡ false → Comes told (λ held. read_tile held (within lib cov) n0) (λ tile. AddsTile (within lib cov) old mid there tile) n1
    → TiledLoads now lib cov n1 n2 result → CoverageLoads told lib cov n0 n2 result
tiled_loads told now lib cov n0 n1 n2 old mid there result same so a h =
    let none = no_own old mid lib cov there a.value so a.is in
    as_tiled told now lib cov n0 n1 n2 result same (λ held e. none_own held lib cov n0 n1 (subst (λ (x : Option LoadedTile). read_tile held (within lib cov) n0 ≡ (Ok x, n1)) none (a.comes held e))) h
