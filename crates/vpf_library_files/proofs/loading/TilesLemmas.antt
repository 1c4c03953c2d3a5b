-- What reading the folders of tiles comes to, tile by tile.
use Rattle.std.proofs.Common.{[], ◌≡◌, ◌∙◌, ℕ, zero, suc, ◌+◌, ◌≤◌, ◌<◌, Bool, false, ◌||◌, List, ◌∷◌, ◌++◌, length, take, Option, Some, None, Ok, refl, sym, ap, subst, append_assoc, arith}
use Rattle.std.specs.Prelude.{is_some, slice_get}
use Rattle.std.proofs.lemmas.List.{append-nil, take_all}
use Rattle.vpf_source.specs.Files.{Files}
use Rattle.vpf_source.specs.declared.file.File.{File}
use Rattle.vpf_prims.specs.Coverages.{numbered_path}
use Rattle.vpf_library_files.specs.declared.loading.loading.LoadStop.{LoadStop}
use Rattle.vpf_library_files.specs.Loading.Loading.{LoadedTile, has_some, read_tile, read_tiles, tiles_files, within}
use Rattle.vpf_library_files.specs.Loading.Loads.{AddsTile, AddsTiles, AreFilesOfTile, AreFilesOfTiles, Comes, ReadsStop}
use Rattle.vpf_library_files.proofs.loading.LoadLemmas.{stops_all}
use Rattle.vpf_library_files.specs.Inner.Loading.StepLaws.{one_count, gives, steps, value_is}

-- the paths of the tiles before tile t
abbrev pub before_tile : List (List ℕ) → ℕ → List (List ℕ)
before_tile paths zero = []
before_tile paths (suc i) = take i paths

no_path : (path : List ℕ) → None ≡ Some path → ⊥
no_path path e = cc

path_is : (a b : List ℕ) → Some a ≡ Some b → a ≡ b
path_is a b e = cc

take_next : (paths : List (List ℕ)) (i : ℕ) (path : List ℕ) → slice_get paths i ≡ Some path → take (suc i) paths ≡ take i paths ++ path ∷ []
take_next [] i path h = absurd (no_path path h)
take_next (p ∷ paths) zero path h = ap (λ (x : List ℕ). x ∷ []) (path_is p path h)
take_next (p ∷ paths) (suc i) path h = ap (λ (x : List (List ℕ)). p ∷ x) (take_next paths i path h)

take_rest : (paths : List (List ℕ)) (i : ℕ) (path : List ℕ) → slice_get paths i ≡ Some path → (rest : List (List ℕ)) × (paths ≡ take i paths ++ path ∷ rest)
take_rest [] i path h = absurd (no_path path h)
take_rest (p ∷ paths) zero path h = (paths, ap (λ (x : List ℕ). x ∷ paths) (path_is p path h))
take_rest (p ∷ paths) (suc i) path h = let r = take_rest paths i path h in (r.0, ap (λ (x : List (List ℕ)). p ∷ x) r.1)

pub next_before : (paths : List (List ℕ)) (t : ℕ) (path : List ℕ) → numbered_path paths t ≡ Some path → before_tile paths (t + 1) ≡ before_tile paths t ++ path ∷ []
next_before paths zero path h = absurd (no_path path h)
next_before paths (suc i) path h = let e : suc i + 1 ≡ suc (suc i) = omega arith in rw e (take_next paths i path h)

pub split_before : (paths : List (List ℕ)) (t : ℕ) (path : List ℕ) → numbered_path paths t ≡ Some path → (rest : List (List ℕ)) × (paths ≡ before_tile paths t ++ path ∷ rest)
split_before paths zero path h = absurd (no_path path h)
split_before paths (suc i) path h = take_rest paths i path h

pub all_before : (paths : List (List ℕ)) (t : ℕ) → length paths < t → before_tile paths t ≡ paths
all_before paths zero h = absurd (omega (arith, h))
all_before paths (suc i) h = take_all i paths (omega (arith, h))

path_there : (paths : List (List ℕ)) (i : ℕ) → i < length paths → slice_get paths i ≡ None → ⊥
path_there [] i h e = omega (arith, h)
path_there (p ∷ paths) zero h e = let n : Some p ≡ None = e in cc
path_there (p ∷ paths) (suc i) h e = path_there paths i (omega (arith, h)) e

pub tile_there : (paths : List (List ℕ)) (t : ℕ) → 1 ≤ t → t ≤ length paths → numbered_path paths t ≡ None → ⊥
tile_there paths zero low high e = omega (arith, low)
tile_there paths (suc i) low high e = path_there paths i (omega (arith, high)) e

-- ---- reading tile by tile

abbrev Tiles : Type 0
Tiles = List (Option LoadedTile)

-- a tile that stops ends the reading of all
pub tile_stops : (held : Files) (folder : List ℕ) (done : List (List ℕ)) (path : List ℕ) (rest : List (List ℕ)) (tiles : Tiles) (n0 n m : ℕ) (stop : LoadStop)
    → read_tiles held folder done n0 ≡ (Ok tiles, n) → ReadsStop stop m (read_tile held (within folder path) n)
    → ReadsStop stop m (read_tiles held folder (done ++ path ∷ rest) n0)
tile_stops held folder [] path rest tiles n0 n m stop e h =
    stops_all stop m (read_tile held (within folder path) n0) _
    (subst (λ (k : ℕ). ReadsStop stop m (read_tile held (within folder path) k)) (sym (one_count {V = Tiles} [] tiles n0 n e)) h)
tile_stops held folder (p ∷ done) path rest tiles n0 n m stop e h =
    let s = steps (read_tile held (within folder p) n0) _ tiles n e in
    let r = steps (read_tiles held folder done s.1) _ tiles n s.3 in
    let same : r.1 ≡ n = one_count (s.0 ∷ r.0) tiles r.1 n r.3 in
    let at_n : read_tiles held folder done s.1 ≡ (Ok r.0, n) = rw same at r.2 in
    let on = tile_stops held folder done path rest r.0 s.1 n m stop at_n h in
    rw s.2 (stops_all stop m (read_tiles held folder (done ++ path ∷ rest) s.1) _ on)

-- one more tile
pub one_more : (held : Files) (folder : List ℕ) (done : List (List ℕ)) (path : List ℕ) (tiles : Tiles) (tile : Option LoadedTile) (n0 n m : ℕ)
    → read_tiles held folder done n0 ≡ (Ok tiles, n) → read_tile held (within folder path) n ≡ (Ok tile, m)
    → read_tiles held folder (done ++ path ∷ []) n0 ≡ (Ok (tiles ++ tile ∷ []), m)
one_more held folder [] path tiles tile n0 n m e h =
    let none : [] ≡ tiles = value_is {V = Tiles} [] tiles n0 n e in
    let first : read_tile held (within folder path) n0 ≡ (Ok tile, m) = subst (λ (k : ℕ). read_tile held (within folder path) k ≡ (Ok tile, m)) (sym (one_count {V = Tiles} [] tiles n0 n e)) h in
    rw first (ap (λ (x : Tiles). gives (x ++ tile ∷ []) m) none)
one_more held folder (p ∷ done) path tiles tile n0 n m e h =
    let s = steps (read_tile held (within folder p) n0) _ tiles n e in
    let r = steps (read_tiles held folder done s.1) _ tiles n s.3 in
    let same : r.1 ≡ n = one_count (s.0 ∷ r.0) tiles r.1 n r.3 in
    let is : s.0 ∷ r.0 ≡ tiles = value_is (s.0 ∷ r.0) tiles r.1 n r.3 in
    let at_n : read_tiles held folder done s.1 ≡ (Ok r.0, n) = rw same at r.2 in
    let on = one_more held folder done path r.0 tile s.1 n m at_n h in
    rw (s.2, on) (ap (λ (x : Tiles). gives (x ++ tile ∷ []) m) is)

-- ---- their files

some_more : (tiles : Tiles) (tile : Option LoadedTile) → has_some (tiles ++ tile ∷ []) ≡ (has_some tiles || is_some tile)
some_more [] None = refl
some_more [] (Some tile) = refl
some_more (None ∷ tiles) tile = some_more tiles tile
some_more (Some t ∷ tiles) tile = refl

files_more : (tiles : Tiles) (tile : Option LoadedTile) → tiles_files (tiles ++ tile ∷ []) ≡ tiles_files tiles ++ tiles_files (tile ∷ [])
files_more [] tile = refl
files_more (None ∷ tiles) tile = files_more tiles tile
files_more (Some t ∷ tiles) tile = ap (λ (x : List File). t.files ++ x) (files_more tiles tile) ∙ sym (append_assoc t.files (tiles_files tiles) (tiles_files (tile ∷ [])))

are_more : (folder : List ℕ) (done : List (List ℕ)) (path : List ℕ) (tiles : Tiles) (tile : Option LoadedTile) → AreFilesOfTiles folder done tiles
    → AreFilesOfTile (within folder path) tile → AreFilesOfTiles folder (done ++ path ∷ []) (tiles ++ tile ∷ [])
are_more folder [] path [] tile h a = (a, tt)
are_more folder [] path (t ∷ tiles) tile h a = absurd h
are_more folder (p ∷ done) path [] tile h a = absurd h
are_more folder (p ∷ done) path (t ∷ tiles) tile h a = (h.0, are_more folder done path tiles tile h.1 a)

adds_more : (folder : List ℕ) (done : List (List ℕ)) (path : List ℕ) (old mid new : List File) (some there : Bool) (tiles : Tiles) (tile : Option LoadedTile)
    → AddsTiles folder done old mid some tiles → AddsTile (within folder path) mid new there tile
    → AddsTiles folder (done ++ path ∷ []) old new (some || there) (tiles ++ tile ∷ [])
adds_more folder done path old mid new some there tiles tile a b =
    let first : mid ≡ old ++ tiles_files tiles = a.behind in
    let then : new ≡ mid ++ tiles_files (tile ∷ []) = b.behind in
    let more : has_some (tiles ++ tile ∷ []) ≡ (has_some tiles || is_some tile) = some_more tiles tile in
    let joined : (old ++ tiles_files tiles) ++ tiles_files (tile ∷ []) ≡ old ++ tiles_files (tiles ++ tile ∷ []) =
    append_assoc old (tiles_files tiles) (tiles_files (tile ∷ [])) ∙ ap (λ (x : List File). old ++ x) (sym (files_more tiles tile)) in
    record {
      tells = ap (λ (x : Bool). x || there) a.tells ∙ ap (λ (x : Bool). has_some tiles || x) b.tells ∙ sym more;
      behind = then ∙ ap (λ (x : List File). x ++ tiles_files (tile ∷ [])) first ∙ joined;
      are = are_more folder done path tiles tile a.are b.are;
    }

-- the tiles before tile t were read
abbrev pub TilesRead : (told : Option Files) (folder : List ℕ) (paths : List (List ℕ)) (n0 : ℕ) (old now : List File) (some : Bool) (n : ℕ) → Type 0
TilesRead told folder paths n0 old now some n = Comes told (λ held. read_tiles held folder paths n0) (λ tiles. AddsTiles folder paths old now some tiles) n

pub none_read : (told : Option Files) (folder : List ℕ) (n : ℕ) (old : List File) → TilesRead told folder [] n old old false n
none_read told folder n old = record {
  value = [];
  is = record { tells = refl; behind = sym (append-nil old); are = tt };
  comes = λ held e. refl;
}

done_more : (told now : Option Files) (folder : List ℕ) (done : List (List ℕ)) (path : List ℕ) (n0 n m : ℕ) (old mid new : List File) (some there : Bool) → now ≡ told
    → TilesRead told folder done n0 old mid some n
    → Comes now (λ held. read_tile held (within folder path) n) (λ tile. AddsTile (within folder path) mid new there tile) m
    → TilesRead told folder (done ++ path ∷ []) n0 old new (some || there) m
done_more told now folder done path n0 n m old mid new some there same a b = record {
  value = a.value ++ b.value ∷ [];
  is = adds_more folder done path old mid new some there a.value b.value a.is b.is;
  comes = λ held e. one_more held folder done path a.value b.value n0 n m (a.comes held e) (b.comes held (same ∙ e));
}

pub tile_more : (told now : Option Files) (folder : List ℕ) (paths : List (List ℕ)) (t : ℕ) (path : List ℕ) (n0 n m : ℕ) (old mid new : List File) (some there : Bool)
    → now ≡ told → numbered_path paths t ≡ Some path → TilesRead told folder (before_tile paths t) n0 old mid some n
    → Comes now (λ held. read_tile held (within folder path) n) (λ tile. AddsTile (within folder path) mid new there tile) m
    → TilesRead told folder (before_tile paths (t + 1)) n0 old new (some || there) m
tile_more told now folder paths t path n0 n m old mid new some there same is a b =
    subst (λ (x : List (List ℕ)). TilesRead told folder x n0 old new (some || there) m) (sym (next_before paths t path is))
    (done_more told now folder (before_tile paths t) path n0 n m old mid new some there same a b)

pub tiles_stop : (told now : Option Files) (folder : List ℕ) (paths : List (List ℕ)) (t : ℕ) (path : List ℕ) (n0 n m : ℕ) (old mid : List File) (some : Bool) (stop : LoadStop)
    → now ≡ told → numbered_path paths t ≡ Some path → TilesRead told folder (before_tile paths t) n0 old mid some n
    → ((held : Files) → now ≡ Some held → ReadsStop stop m (read_tile held (within folder path) n))
    → ((held : Files) → told ≡ Some held → ReadsStop stop m (read_tiles held folder paths n0))
tiles_stop told now folder paths t path n0 n m old mid some stop same is a h held e =
    let s = split_before paths t path is in
    subst (λ (x : List (List ℕ)). ReadsStop stop m (read_tiles held folder x n0)) (sym s.1)
    (tile_stops held folder (before_tile paths t) path s.0 a.value n0 n m stop (a.comes held e) (h held (same ∙ e)))

pub tiles_done : (told : Option Files) (folder : List ℕ) (paths : List (List ℕ)) (t n0 n : ℕ) (old now : List File) (some : Bool) → length paths < t
    → TilesRead told folder (before_tile paths t) n0 old now some n → TilesRead told folder paths n0 old now some n
tiles_done told folder paths t n0 n old now some past a =
    subst (λ (x : List (List ℕ)). TilesRead told folder x n0 old now some n) (all_before paths t past) a
