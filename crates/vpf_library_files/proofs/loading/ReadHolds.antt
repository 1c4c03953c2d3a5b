-- A coverage that is read from a tree is one that it holds.
use Rattle.std.proofs.Common.{[], ◌≡◌, ◌∙◌, inl, inr, ℕ, ◌+◌, ◌≤◌, Bool, true, false, List, ◌∷◌, ◌++◌, length, Option, None, Some, Ok, refl, sym, subst, arith}
use Rattle.std.specs.Prelude.{codes, if◌then◌else◌}
use Rattle.vpf_source.specs.Files.{Files, HoldsBytes}
use Rattle.vpf_library_files.specs.Inner.Tileref.Laws.{StopsDecide}
use Rattle.vpf_library_files.specs.Tileref.Stops.{TilerefStop, path_texts, tileref_stop}
use Rattle.vpf_library_files.specs.declared.loading.loading.LoadStop.{LoadStop}
use Rattle.vpf_library_files.specs.Loading.Loading.{LoadedTable, LoadedTile, LoadedCoverage, decided, has_some, loaded_tile, files_in, grid_in, most_loaded, placed, read_optional_table, read_rest, read_table, read_tile, read_tiled, read_tileref, read_tiles, tiled_loaded, tileref_name, tileref_stopped, tiles_files, unless_stopped, untiled_loaded, untiled_or_tiled, within}
use Rattle.vpf_library_files.specs.Loading.Holding.{AreFilesOfOption, AreHeld, AreTileFiles, HoldsCoverage, LacksOfTiles, bytes_in}
use Rattle.vpf_library_files.specs.Loading.Loads.{AreFilesOfTiles}
use Rattle.vpf_library_files.specs.Inner.Loading.Laws.{ReadIsHeld}
use Rattle.vpf_library_files.specs.Inner.Loading.FileLaws.{bytes_of_both, held_both}
use Rattle.vpf_library_files.specs.Inner.Loading.StepLaws.{one_count, gives, no_value, steps, stopped, value_is}
use Rattle.vpf_library_files.specs.Inner.Loading.ReadLaws.{OpenedAreSpelled, TableRead, TableReadOption, optional_is, required_table_is}
use Rattle.vpf_library_files.proofs.loading.TiledLemmas.{are_tiles, placed_some}

-- the last table, which may be absent
record LastRead (held : Files) (name : List ℕ) (t : Option LoadedTable) (m k : ℕ) : Type 0 where
  are : AreFilesOfOption name (grid_in t) (files_in t)
  there : AreHeld held (files_in t)
  sum : k ≡ m + bytes_in (files_in t)
  most : k ≤ most_loaded
  absent : grid_in t ≡ None → held name ≡ None

grid_there : (t : LoadedTable) → grid_in (Some t) ≡ None → ⊥
grid_there t e = cc

last_by : (held : Files) (name : List ℕ) (t : Option LoadedTable) (m k : ℕ) → m ≤ most_loaded → TableReadOption held name t m k → LastRead held name t m k
last_by held name None m k most r =
    let same = r.1 in
    record { are = refl; there = tt; sum = omega (arith, same); most = rw same at most; absent = λ _. r.0 }
last_by held name (Some t) m k most r =
    record { are = r.are; there = r.there; sum = r.sum; most = r.most; absent = λ none. absurd (grid_there t none) }

last_is : OpenedAreSpelled → (held : Files) (name : List ℕ) (t : Option LoadedTable) (m k : ℕ) → HoldsBytes held → m ≤ most_loaded
    → read_optional_table held name m ≡ (Ok t, k) → LastRead held name t m k
last_is laws held name t m k all most e = last_by held name t m k most (optional_is laws held name t m k all e)

-- ---- the tables of a folder

record TileRead (held : Files) (folder : List ℕ) (tile : LoadedTile) (m k : ℕ) : Type 0 where
  are : AreTileFiles folder tile.tables tile.files
  there : AreHeld held tile.files
  sum : k ≡ m + bytes_in tile.files
  most : k ≤ most_loaded
  absent : tile.tables.end ≡ None → held (within folder (codes "end")) ≡ None

all_read : (held : Files) (folder : List ℕ) (edg fac rng cnd : LoadedTable) (end : Option LoadedTable) (n0 n1 n2 n3 n4 n5 : ℕ)
    → TableRead held (within folder (codes "edg")) edg n0 n1 → TableRead held (within folder (codes "fac")) fac n1 n2
    → TableRead held (within folder (codes "rng")) rng n2 n3 → TableRead held (within folder (codes "cnd")) cnd n3 n4
    → LastRead held (within folder (codes "end")) end n4 n5 → TileRead held folder (loaded_tile edg fac rng cnd end) n0 n5
all_read held folder edg fac rng cnd end n0 n1 n2 n3 n4 n5 e f r c n =
    let z = files_in end in
    let s0 = bytes_of_both edg.files (fac.files ++ (rng.files ++ (cnd.files ++ z))) in
    let s1 = bytes_of_both fac.files (rng.files ++ (cnd.files ++ z)) in
    let s2 = bytes_of_both rng.files (cnd.files ++ z) in
    let s3 = bytes_of_both cnd.files z in
    let c1 = e.sum in
    let c2 = f.sum in
    let c3 = r.sum in
    let c4 = c.sum in
    let c5 = n.sum in
    record {
      are = record {
        edg = edg.files;
        fac = fac.files;
        rng = rng.files;
        cnd = cnd.files;
        end = z;
        are = refl;
        edg_is = e.are;
        fac_is = f.are;
        rng_is = r.are;
        cnd_is = c.are;
        end_is = n.are;
      };
      there = held_both held edg.files (fac.files ++ (rng.files ++ (cnd.files ++ z))) e.there
          (held_both held fac.files (rng.files ++ (cnd.files ++ z)) f.there
          (held_both held rng.files (cnd.files ++ z) r.there (held_both held cnd.files z c.there n.there)));
      sum = omega (arith, s0, s1, s2, s3, c1, c2, c3, c4, c5);
      most = n.most;
      absent = n.absent;
    }

tile_so : (held : Files) (folder : List ℕ) (x tile : LoadedTile) (m n k : ℕ) → x ≡ tile → n ≡ k → TileRead held folder x m n → TileRead held folder tile m k
tile_so held folder x tile m n k e f h = rw (e, f) at h

rest_is : OpenedAreSpelled → (held : Files) (folder : List ℕ) (edg : LoadedTable) (tile : LoadedTile) (n0 n1 k : ℕ) → HoldsBytes held
    → TableRead held (within folder (codes "edg")) edg n0 n1 → read_rest held folder edg n1 ≡ (Ok tile, k) → TileRead held folder tile n0 k
rest_is laws held folder edg tile n0 n1 k all first e =
    let s2 = steps (read_table held (within folder (codes "fac")) n1) _ tile k e in
    let s3 = steps (read_table held (within folder (codes "rng")) s2.1) _ tile k s2.3 in
    let s4 = steps (read_table held (within folder (codes "cnd")) s3.1) _ tile k s3.3 in
    let s5 = steps (read_optional_table held (within folder (codes "end")) s4.1) _ tile k s4.3 in
    let fac = required_table_is laws held (within folder (codes "fac")) s2.0 n1 s2.1 all s2.2 in
    let rng = required_table_is laws held (within folder (codes "rng")) s3.0 s2.1 s3.1 all s3.2 in
    let cnd = required_table_is laws held (within folder (codes "cnd")) s4.0 s3.1 s4.1 all s4.2 in
    let end = last_is laws held (within folder (codes "end")) s5.0 s4.1 s5.1 all cnd.most s5.2 in
    let made = loaded_tile edg s2.0 s3.0 s4.0 s5.0 in
    tile_so held folder made tile n0 s5.1 k (value_is made tile s5.1 k s5.3) (one_count made tile s5.1 k s5.3)
    (all_read held folder edg s2.0 s3.0 s4.0 s5.0 n0 n1 s2.1 s3.1 s4.1 s5.1 first fac rng cnd end)

-- a folder that may have no tables
record FolderRead (held : Files) (folder : List ℕ) (tile : Option LoadedTile) (m k : ℕ) : Type 0 where
  none : tile ≡ None → (held (within folder (codes "edg")) ≡ None) × (m ≡ k)
  some : (t : LoadedTile) → tile ≡ Some t → TileRead held folder t m k

abbrev no_tile : Option LoadedTile
no_tile = None

some_none : (t : LoadedTile) → Some t ≡ no_tile → ⊥
some_none t e = cc

none_some : (t : LoadedTile) → no_tile ≡ Some t → ⊥
none_some t e = cc

one_tile : (s t : LoadedTile) → Some s ≡ Some t → s ≡ t
one_tile s t e = cc

some_table : (held : Files) (name : List ℕ) (edg : LoadedTable) (m k : ℕ) → LastRead held name (Some edg) m k → TableRead held name edg m k
some_table held name edg m k r = record { are = r.are; there = r.there; sum = r.sum; most = r.most }

decided_is : OpenedAreSpelled → (held : Files) (folder : List ℕ) (edg : Option LoadedTable) (tile : Option LoadedTile) (m n k : ℕ) → HoldsBytes held
    → LastRead held (within folder (codes "edg")) edg m n → decided held folder edg n ≡ (Ok tile, k) → FolderRead held folder tile m k
decided_is laws held folder None tile m n k all r e =
    let sum = r.sum in
    let count : n ≡ k = one_count None tile n k e in
    let is : None ≡ tile = value_is None tile n k e in
    record { none = λ _. (r.absent refl, omega (arith, sum, count)); some = λ t so. absurd (none_some t (is ∙ so)) }
decided_is laws held folder (Some edg) tile m n k all r e =
    let s = steps (read_rest held folder edg n) (λ t i. gives (Some t) i) tile k e in
    let is : Some s.0 ≡ tile = value_is (Some s.0) tile s.1 k s.3 in
    let count : s.1 ≡ k = one_count (Some s.0) tile s.1 k s.3 in
    let one = rest_is laws held folder edg s.0 m n s.1 all (some_table held (within folder (codes "edg")) edg m n r) s.2 in
    record { none = λ so. absurd (some_none s.0 (is ∙ so)); some = λ t so. tile_so held folder s.0 t m s.1 k (one_tile s.0 t (is ∙ so)) count one }

folder_is : OpenedAreSpelled → (held : Files) (folder : List ℕ) (tile : Option LoadedTile) (m k : ℕ) → HoldsBytes held → m ≤ most_loaded
    → read_tile held folder m ≡ (Ok tile, k) → FolderRead held folder tile m k
folder_is laws held folder tile m k all most e =
    let s = steps (read_optional_table held (within folder (codes "edg")) m) (decided held folder) tile k e in
    decided_is laws held folder s.0 tile m s.1 k all (last_is laws held (within folder (codes "edg")) s.0 m s.1 all most s.2) s.3

-- ---- the tiles

record TilesRead (held : Files) (folder : List ℕ) (paths : List (List ℕ)) (tiles : List (Option LoadedTile)) (m k : ℕ) : Type 0 where
  are : AreFilesOfTiles folder paths tiles
  there : AreHeld held (tiles_files tiles)
  sum : k ≡ m + bytes_in (tiles_files tiles)
  most : k ≤ most_loaded
  lacks : (at : ℕ) → LacksOfTiles held folder paths (placed at tiles)

tiles_so : (held : Files) (folder : List ℕ) (paths : List (List ℕ)) (x tiles : List (Option LoadedTile)) (m n k : ℕ) → x ≡ tiles → n ≡ k
    → TilesRead held folder paths x m n → TilesRead held folder paths tiles m k
tiles_so held folder paths x tiles m n k e f h = rw (e, f) at h

no_tiles : (held : Files) (folder : List ℕ) (m : ℕ) → m ≤ most_loaded → TilesRead held folder [] [] m m
no_tiles held folder m most = record { are = tt; there = tt; sum = omega arith; most = most; lacks = λ at. tt }

one_more : (held : Files) (folder path : List ℕ) (paths : List (List ℕ)) (tile : Option LoadedTile) (tiles : List (Option LoadedTile)) (m n k : ℕ) → FolderRead held (within folder path) tile m n
    → TilesRead held folder paths tiles n k → TilesRead held folder (path ∷ paths) (tile ∷ tiles) m k
one_more held folder path paths None tiles m n k f r =
    let none = f.none refl in
    let same = none.1 in
    let sum = r.sum in
    record { are = (tt, r.are); there = r.there; sum = omega (arith, same, sum); most = r.most; lacks = λ at. (none.0, r.lacks at) }
one_more held folder path paths (Some t) tiles m n k f r =
    let one = f.some t refl in
    let first = one.sum in
    let sum = r.sum in
    let both = bytes_of_both t.files (tiles_files tiles) in
    record {
      are = (one.are, r.are);
      there = held_both held t.files (tiles_files tiles) one.there r.there;
      sum = omega (arith, first, sum, both);
      most = r.most;
      lacks = λ at. (one.absent, r.lacks (at + length t.files));
    }

folder_most : (held : Files) (folder : List ℕ) (tile : Option LoadedTile) (m n : ℕ) → m ≤ most_loaded → FolderRead held folder tile m n → n ≤ most_loaded
folder_most held folder None m n most f = let e = (f.none refl).1 in omega (arith, e, most)
folder_most held folder (Some t) m n most f = (f.some t refl).most

tiles_are : OpenedAreSpelled → (held : Files) (folder : List ℕ) (paths : List (List ℕ)) (tiles : List (Option LoadedTile)) (m k : ℕ) → HoldsBytes held → m ≤ most_loaded
    → read_tiles held folder paths m ≡ (Ok tiles, k) → TilesRead held folder paths tiles m k
tiles_are laws held folder [] tiles m k all most e =
    tiles_so held folder [] [] tiles m m k (value_is {V = List (Option LoadedTile)} [] tiles m k e) (one_count {V = List (Option LoadedTile)} [] tiles m k e) (no_tiles held folder m most)
tiles_are laws held folder (path ∷ paths) tiles m k all most e =
    let s = steps (read_tile held (within folder path) m) _ tiles k e in
    let r = steps (read_tiles held folder paths s.1) _ tiles k s.3 in
    let first = folder_is laws held (within folder path) s.0 m s.1 all most s.2 in
    let rest = tiles_are laws held folder paths r.0 s.1 r.1 all (folder_most held (within folder path) s.0 m s.1 most first) r.2 in
    tiles_so held folder (path ∷ paths) (s.0 ∷ r.0) tiles m r.1 k (value_is (s.0 ∷ r.0) tiles r.1 k r.3) (one_count (s.0 ∷ r.0) tiles r.1 k r.3)
    (one_more held folder path paths s.0 r.0 m s.1 r.1 first rest)

-- ---- the table of tiles

record TilerefRead (held : Files) (name : List ℕ) (t : LoadedTable) (m k : ℕ) : Type 0 where
  table : TableRead held name t m k
  on : tileref_stop t.grid ≡ None

table_so : (held : Files) (name : List ℕ) (x t : LoadedTable) (m n k : ℕ) → x ≡ t → n ≡ k → TilerefRead held name x m n → TilerefRead held name t m k
table_so held name x t m n k e f h = rw (e, f) at h

went_on : (name : List ℕ) (first : Option TilerefStop) (v t : LoadedTable) (n k : ℕ) → unless_stopped name first v n ≡ (Ok t, k) → (first ≡ None) × (v ≡ t) × (n ≡ k)
went_on name None v t n k e = (refl, value_is v t n k e, one_count v t n k e)
went_on name (Some stop) v t n k e = absurd (no_value (tileref_stopped name stop) n k t e)

tileref_is : OpenedAreSpelled → (held : Files) (lib : List ℕ) (t : LoadedTable) (m k : ℕ) → HoldsBytes held → read_tileref held lib m ≡ (Ok t, k)
    → TilerefRead held (tileref_name lib) t m k
tileref_is laws held lib t m k all e =
    let s = steps (read_table held (tileref_name lib) m) _ t k e in
    let on = went_on (tileref_name lib) (tileref_stop s.0.grid) s.0 t s.1 k s.3 in
    table_so held (tileref_name lib) s.0 t m s.1 k on.1 on.2
    (record { table = required_table_is laws held (tileref_name lib) s.0 m s.1 all s.2; on = on.0 })

-- ---- the coverage

held_so : (held : Files) (lib cov : List ℕ) (x c : LoadedCoverage) → x ≡ c → HoldsCoverage held lib cov x → HoldsCoverage held lib cov c
held_so held lib cov x c e h = rw e at h

untiled_is : (held : Files) (lib cov : List ℕ) (t : LoadedTile) (k : ℕ) → TileRead held (within lib cov) t 0 k → HoldsCoverage held lib cov (untiled_loaded t)
untiled_is held lib cov t k r =
    let sum = r.sum in
    let most = r.most in
    record {
      are = inl (record { tables = t.tables; is = refl; are = r.are });
      there = r.there;
      few = omega (arith, sum, most);
      own = r.absent;
      tiles = tt;
    }

tiled_is : StopsDecide → (held : Files) (lib cov : List ℕ) (t : LoadedTable) (tiles : List (Option LoadedTile)) (n k : ℕ) → held (within (within lib cov) (codes "edg")) ≡ None
    → TilerefRead held (tileref_name lib) t 0 n → TilesRead held (within lib cov) (path_texts t.grid) tiles n k → has_some tiles ≡ true
    → HoldsCoverage held lib cov (tiled_loaded t tiles)
tiled_is decide held lib cov t tiles n k none a b some =
    let right = (decide t.grid).0 a.on in
    let first = a.table.sum in
    let sum = b.sum in
    let most = b.most in
    let both = bytes_of_both t.files (tiles_files tiles) in
    record {
      are = inr (record {
        tileref = t.grid;
        tiles = placed (length t.files) tiles;
        before = t.files;
        behind = tiles_files tiles;
        is = refl;
        are = refl;
        tileref_is = a.table.are;
        right = right.0;
        bounded = right.1;
        tiles_are = are_tiles (within lib cov) (length t.files) (path_texts t.grid) tiles b.are;
        some = placed_some (length t.files) tiles ∙ some;
      });
      there = held_both held t.files (tiles_files tiles) a.table.there b.there;
      few = omega (arith, first, sum, most, both);
      own = none;
      tiles = b.lacks (length t.files);
    }

-- some tile has tables
not_empty : (some : Bool) (x c : LoadedCoverage) (stop : LoadStop) (n k : ℕ) → (if some then gives x n else stopped stop n) ≡ (Ok c, k) → (some ≡ true) × (x ≡ c)
not_empty true x c stop n k e = (refl, value_is x c n k e)
not_empty false x c stop n k e = absurd (no_value stop n k c e)

tiled_coverage_is : OpenedAreSpelled → StopsDecide → (held : Files) (lib cov : List ℕ) (c : LoadedCoverage) (n k : ℕ) → HoldsBytes held → 0 ≡ n
    → held (within (within lib cov) (codes "edg")) ≡ None → read_tiled held lib cov n ≡ (Ok c, k) → HoldsCoverage held lib cov c
tiled_coverage_is laws decide held lib cov c n k all zero none e =
    let s = steps (read_tileref held lib n) _ c k e in
    let r = steps (read_tiles held (within lib cov) (path_texts s.0.grid) s.1) _ c k s.3 in
    let a = subst (λ (x : ℕ). TilerefRead held (tileref_name lib) s.0 x s.1) (sym zero) (tileref_is laws held lib s.0 n s.1 all s.2) in
    let b = tiles_are laws held (within lib cov) (path_texts s.0.grid) r.0 s.1 r.1 all a.table.most r.2 in
    let last = not_empty (has_some r.0) (tiled_loaded s.0 r.0) c _ r.1 k r.3 in
    held_so held lib cov (tiled_loaded s.0 r.0) c last.1 (tiled_is decide held lib cov s.0 r.0 s.1 r.1 none a b last.0)

either_is : OpenedAreSpelled → StopsDecide → (held : Files) (lib cov : List ℕ) (c : LoadedCoverage) (tile : Option LoadedTile) (n k : ℕ) → HoldsBytes held
    → FolderRead held (within lib cov) tile 0 n → untiled_or_tiled held lib cov tile n ≡ (Ok c, k) → HoldsCoverage held lib cov c
either_is laws decide held lib cov c (Some t) n k all f e =
    held_so held lib cov (untiled_loaded t) c (value_is (untiled_loaded t) c n k e) (untiled_is held lib cov t n (f.some t refl))
either_is laws decide held lib cov c None n k all f e =
    let none = f.none refl in
    tiled_coverage_is laws decide held lib cov c n k all none.1 none.0 e

pub read_is_held : OpenedAreSpelled → StopsDecide → ReadIsHeld
read_is_held laws decide held lib cov c loaded all e =
    let s = steps (read_tile held (within lib cov) 0) (untiled_or_tiled held lib cov) c loaded e in
    either_is laws decide held lib cov c s.0 s.1 loaded all (folder_is laws held (within lib cov) s.0 0 s.1 all (omega arith) s.2) s.3
