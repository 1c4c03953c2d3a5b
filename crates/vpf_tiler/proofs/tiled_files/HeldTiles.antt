-- A folder that holds exactly the files of the tables of tiles holds the coverage of these tiles.
use Rattle.std.proofs.Common.{[], ◌≡◌, ◌≢◌, ◌<◌, ◌≤◌, ℕ, suc, zero, ◌+◌, true, List, ◌∷◌, ◌++◌, length, map, get_or, Option, Some, None, refl, sym, ap, subst, ◌∙◌, arith, inr, append-nil}
use Rattle.std.specs.Prelude.{IsUtf8, codes, is_some}
use Rattle.std.specs.List.{AllByRecursion, list_any}
use Rattle.std.specs.Option.{option_map}
use Rattle.std.proofs.lemmas.List.Elements.{All-from_recursion}
use Rattle.std.proofs.lemmas.Str.{encode_ascii}
use Rattle.vpf_source.specs.Files.{Files}
use Rattle.vpf_source.specs.declared.file.File.{File}
use Rattle.vpf_table.specs.Grid.{Grid}
use Rattle.vpf_prims.specs.Coverages.{tiled_coverage}
use Rattle.vpf_prims.specs.Reading.{PrimitiveTables}
use Rattle.vpf_prims.specs.Tables.{TileTables}
use Rattle.vpf_library_files.specs.Tileref.Stops.{IsBounded, path_texts}
use Rattle.vpf_library_files.specs.Tileref.Tileref.{IsTileref}
use Rattle.vpf_library_files.specs.Loading.Holding.{AreFilesOf, AreTilesFiles, HoldsCoverage, LacksOfTiles, bytes_in}
use Rattle.vpf_library_files.specs.Loading.Loading.{LoadedCoverage, most_loaded, tileref_name, within}
use Rattle.vpf_write.specs.Made.Files.{table_files}
use Rattle.vpf_library_files.specs.TableFiles.Adding.{NamedTable, files_made, files_of_table, table_within}
use Rattle.vpf_tiler.specs.Inner.TiledFiles.StemLaws.{within_within, within_is}
use Rattle.vpf_tiler.specs.Inner.TiledFiles.PathLaws.{IsInner}
use Rattle.vpf_tiler.proofs.tiled_files.ReadTables.{read_both, read_files}
use Rattle.vpf_tiler.specs.Inner.TiledFiles.TableLaws.{TableCanBeRead as CanBeRead, all_small, bytes_moved, files_held, moved}
use Rattle.vpf_base.proofs.Lists.{all_joined as all_both}
use Rattle.vpf_tiler.proofs.tiled_files.ReadTiles.{all_tables, there_read, tiles_at, tiles_read}
use Rattle.vpf_tiler.specs.Inner.TiledFiles.TileLaws.{EachOpens, IsTilePlace as IsPlace, tables_held as tables_in, tile_place}
use Rattle.vpf_tiler.proofs.tiled_files.AbsentNames.{edges_apart, ends_apart, own_apart, tileref_apart}
use Rattle.vpf_tiler.specs.Inner.TiledFiles.AbsentLaws.{IsOtherName as IsOther, one_folder}

-- ---- the tiles that are read

-- they have these tables
pub tables_of_each : (out cov : List ℕ) (at : ℕ) (paths : List (List ℕ)) (tiles : List (Option PrimitiveTables)) (k : ℕ) → length paths ≡ length tiles
    → option_map (λ (tile : TileTables). tile.tables) (get_or (tiles_at out cov at paths tiles) k None) ≡ get_or tiles k None
tables_of_each out cov at [] [] k many = refl
tables_of_each out cov at [] (tile ∷ tiles) k many = absurd (omega (arith, many))
tables_of_each out cov at (path ∷ paths) [] k many = absurd (omega (arith, many))
tables_of_each out cov at (path ∷ paths) (None ∷ tiles) zero many = refl
tables_of_each out cov at (path ∷ paths) (None ∷ tiles) (suc k) many = tables_of_each out cov at paths tiles k (omega (arith, many))
tables_of_each out cov at (path ∷ paths) (Some P ∷ tiles) zero many = refl
tables_of_each out cov at (path ∷ paths) (Some P ∷ tiles) (suc k) many =
    tables_of_each out cov (at + length (read_files out (tables_in (within cov path) P))) paths tiles k (omega (arith, many))

-- and are as many
pub as_many : (out cov : List ℕ) (at : ℕ) (paths : List (List ℕ)) (tiles : List (Option PrimitiveTables)) → length paths ≡ length tiles
    → length (tiles_at out cov at paths tiles) ≡ length tiles
as_many out cov at [] [] many = refl
as_many out cov at [] (tile ∷ tiles) many = absurd (omega (arith, many))
as_many out cov at (path ∷ paths) [] many = absurd (omega (arith, many))
as_many out cov at (path ∷ paths) (None ∷ tiles) many = ap suc (as_many out cov at paths tiles (omega (arith, many)))
as_many out cov at (path ∷ paths) (Some P ∷ tiles) many =
    ap suc (as_many out cov (at + length (read_files out (tables_in (within cov path) P))) paths tiles (omega (arith, many)))

-- some of them have tables where some are given
some_has : (out cov : List ℕ) (at : ℕ) (paths : List (List ℕ)) (tiles : List (Option PrimitiveTables)) → length paths ≡ length tiles
    → list_any is_some (tiles_at out cov at paths tiles) ≡ list_any is_some tiles
some_has out cov at [] [] many = refl
some_has out cov at [] (tile ∷ tiles) many = absurd (omega (arith, many))
some_has out cov at (path ∷ paths) [] many = absurd (omega (arith, many))
some_has out cov at (path ∷ paths) (None ∷ tiles) many = some_has out cov at paths tiles (omega (arith, many))
some_has out cov at (path ∷ paths) (Some P ∷ tiles) many = refl

-- what the tree lacks of all tiles, by what it lacks of each
lacks_of_each : (held : Files) (out cov : List ℕ) (at : ℕ) (paths : List (List ℕ)) (tiles : List (Option PrimitiveTables))
    → ((k : ℕ) → k < length paths → get_or tiles k None ≡ None → held (within (within (within out cov) (get_or paths k [])) (codes "edg")) ≡ None)
    → ((k : ℕ) (P : PrimitiveTables) → k < length paths → get_or tiles k None ≡ Some P → P.end ≡ None
    → held (within (within (within out cov) (get_or paths k [])) (codes "end")) ≡ None)
    → LacksOfTiles held (within out cov) paths (tiles_at out cov at paths tiles)
lacks_of_each held out cov at [] tiles edges ends = tt
lacks_of_each held out cov at (path ∷ paths) [] edges ends = tt
lacks_of_each held out cov at (path ∷ paths) (None ∷ tiles) edges ends = (
  edges 0 (omega arith) refl,
  lacks_of_each held out cov at paths tiles (λ k h. edges (suc k) (omega (arith, h))) (λ k P h. ends (suc k) P (omega (arith, h))),
)
lacks_of_each held out cov at (path ∷ paths) (Some P ∷ tiles) edges ends = (
  ends 0 P (omega arith) refl,
  lacks_of_each held out cov (at + length (read_files out (tables_in (within cov path) P))) paths tiles (λ k h. edges (suc k) (omega (arith, h)))
      (λ k P h. ends (suc k) P (omega (arith, h))),
)

-- ---- the library

-- the table of tiles in its folder
abbrev pub tiles_table : Grid → NamedTable
tiles_table tileref = table_within (codes "tileref") (codes "tileref.aft") tileref

-- the tables of a library: the table of tiles, and those of the tiles with these paths
abbrev pub tables_with : (cov : List ℕ) → Grid → List (List ℕ) → List (Option PrimitiveTables) → List NamedTable
tables_with cov tileref paths tiles = tiles_table tileref ∷ all_tables cov paths tiles

-- a folder holds exactly the files of these tables, which can be read again: the tiles have paths of their own, some have tables, and all of those
-- have entity nodes or none has
pub record IsMadeOf (held : Files) (out cov : List ℕ) (tileref : Grid) (paths : List (List ℕ)) (tiles : List (Option PrimitiveTables)) : Type 0 where
  pub out_utf8 : IsUtf8 out
  pub cov_utf8 : IsUtf8 cov
  pub cov_some : cov ≢ []
  pub right : IsTileref tileref
  pub bounded : IsBounded tileref
  pub paths_are : path_texts tileref ≡ paths
  pub many : length paths ≡ length tiles
  pub inner : AllByRecursion IsInner paths
  pub apart : (j k : ℕ) → j < length paths → k < length paths → get_or paths j [] ≡ get_or paths k [] → j ≡ k
  pub alike : (j k : ℕ) (P Q : PrimitiveTables) → get_or tiles j None ≡ Some P → get_or tiles k None ≡ Some Q → P.end ≡ None → Q.end ≡ None
  pub some : list_any is_some tiles ≡ true
  pub opens : EachOpens
  pub readable : AllByRecursion CanBeRead (tables_with cov tileref paths tiles)
  pub there : AllByRecursion (λ (file : File). held (within out file.name) ≡ Some file.bytes) (files_made (tables_with cov tileref paths tiles))
  pub others : (name : List ℕ) → AllByRecursion (IsOther name) (files_made (tables_with cov tileref paths tiles)) → held (within out name) ≡ None
  pub few : bytes_in (files_made (tables_with cov tileref paths tiles)) ≤ most_loaded

-- the coverage that is read
abbrev pub tiled_read : (out cov : List ℕ) → Grid → List (List ℕ) → List (Option PrimitiveTables) → LoadedCoverage
tiled_read out cov tileref paths tiles = record {
  coverage = tiled_coverage paths (tiles_at out cov (length (read_files out (tiles_table tileref ∷ []))) paths tiles);
  files = read_files out (tables_with cov tileref paths tiles);
}

-- a name that no file has isn't there
absent : (held : Files) (out folder place tail : List ℕ) (tables : List NamedTable) → IsPlace out folder place
    → ((name : List ℕ) → AllByRecursion (IsOther name) (files_made tables) → held (within out name) ≡ None)
    → AllByRecursion (IsOther (within folder [] ++ tail)) (files_made tables) → held (within place tail) ≡ None
absent held out folder place tail tables p others h =
    let name : within out (within folder [] ++ tail) ≡ within place tail =
    ap (within out) (sym (within_is folder tail)) ∙ within_within out folder tail p.some ∙ ap (λ (x : List ℕ). within x tail) p.is in
    subst (λ (x : List ℕ). held x ≡ None) name (others (within folder [] ++ tail) h)

-- the folder of the coverage
own_place : (out cov : List ℕ) → IsUtf8 out → IsUtf8 cov → cov ≢ [] → IsPlace out cov (within out cov)
own_place out cov u v some = record { out_utf8 = u; utf8 = v; some = some; is = refl }

-- a tile that has tables is one of them
some_below : {X : Type 0} (xs : List (Option X)) (k : ℕ) (x : X) → get_or xs k None ≡ Some x → k < length xs
some_below [] k x e = absurd cc
some_below (y ∷ xs) zero x e = omega arith
some_below (y ∷ xs) (suc k) x e = let h = some_below xs k x e in omega (arith, h)

-- the table of tiles is read from its own folder
tileref_read : (held : Files) (out cov : List ℕ) (tileref : Grid) (paths : List (List ℕ)) (tiles : List (Option PrimitiveTables))
    → IsMadeOf held out cov tileref paths tiles
    → AreFilesOf (tileref_name out) tileref (read_files out (tiles_table tileref ∷ []))
unfolding lib.Utf8.encode
tileref_read held out cov tileref paths tiles m =
    let folder : IsUtf8 (codes "tileref") = (codes "tileref", (refl, refl)) in
    let rest : IsUtf8 (codes "tileref.af") = (codes "tileref.af", (refl, refl)) in
    let place : IsPlace out (codes "tileref") (within out (codes "tileref")) = own_place out (codes "tileref") m.out_utf8 folder (λ e. cc) in
    subst (λ (x : List File). AreFilesOf (tileref_name out) tileref x)
    (ap (map (moved out)) (sym (append-nil (table_files (within (codes "tileref") (codes "tileref.aft")) tileref))))
    (there_read out (codes "tileref") (within out (codes "tileref")) (codes "tileref.af") 116 tileref place rest refl (encode_ascii 116 (omega arith))
    (m.opens tileref m.readable.0.0 m.readable.0.1))

-- the folder of the coverage has no edges
no_own : (held : Files) (out cov : List ℕ) (tileref : Grid) (paths : List (List ℕ)) (tiles : List (Option PrimitiveTables))
    → IsMadeOf held out cov tileref paths tiles → held (within (within out cov) (codes "edg")) ≡ None
no_own held out cov tileref paths tiles m =
    absent held out cov (within out cov) (codes "edg") (tables_with cov tileref paths tiles) (own_place out cov m.out_utf8 m.cov_utf8 m.cov_some) m.others
    (all_both (IsOther (within cov [] ++ codes "edg")) (files_of_table (tiles_table tileref)) (files_made (all_tables cov paths tiles))
    (tileref_apart (within cov []) 101 100 103 tileref (λ e. omega (arith, e)) (λ e. omega (arith, e)))
    (edges_apart cov (within cov []) paths tiles m.cov_utf8 m.inner (λ k P e.
    let many = m.many in
    let below = some_below tiles k P e in
    own_apart cov (get_or paths k []) (All-from_recursion IsInner paths m.inner k [] (omega (arith, many, below))))))

-- an empty tile has none
no_edges : (held : Files) (out cov : List ℕ) (tileref : Grid) (paths : List (List ℕ)) (tiles : List (Option PrimitiveTables))
    → IsMadeOf held out cov tileref paths tiles
    → (k : ℕ) → k < length paths → get_or tiles k None ≡ None → held (within (within (within out cov) (get_or paths k [])) (codes "edg")) ≡ None
no_edges held out cov tileref paths tiles m k below none =
    let path = get_or paths k [] in
    let each : (j : ℕ) → j < length paths → IsInner (get_or paths j []) = λ j h. All-from_recursion IsInner paths m.inner j [] h in
    let st = within (within cov path) [] in
    absent held out (within cov path) (within (within out cov) path) (codes "edg") (tables_with cov tileref paths tiles)
    (tile_place out cov path m.out_utf8 m.cov_utf8 m.cov_some (each k below)) m.others
    (all_both (IsOther (st ++ codes "edg")) (files_of_table (tiles_table tileref)) (files_made (all_tables cov paths tiles))
    (tileref_apart st 101 100 103 tileref (λ e. omega (arith, e)) (λ e. omega (arith, e)))
    (edges_apart cov st paths tiles m.cov_utf8 m.inner (λ j P e same.
    let many = m.many in
    let here = some_below tiles j P e in
    let within_all : j < length paths = omega (arith, many, here) in
    let one : j ≡ k = m.apart j k within_all below (one_folder cov (get_or paths j []) path (each j within_all) (each k below) same) in
    let f : get_or tiles k None ≡ Some P = subst (λ (i : ℕ). get_or tiles i None ≡ Some P) one e in
    none_some (sym none ∙ f))))
  where
    none_some : {P : PrimitiveTables} → None ≡ Some P → ⊥
    none_some e = cc

-- where a tile has no entity nodes, no table of them is there
no_ends : (held : Files) (out cov : List ℕ) (tileref : Grid) (paths : List (List ℕ)) (tiles : List (Option PrimitiveTables))
    → IsMadeOf held out cov tileref paths tiles
    → (k : ℕ) (P : PrimitiveTables) → k < length paths → get_or tiles k None ≡ Some P → P.end ≡ None
    → held (within (within (within out cov) (get_or paths k [])) (codes "end")) ≡ None
no_ends held out cov tileref paths tiles m k P below is none =
    let path = get_or paths k [] in
    let st = within (within cov path) [] in
    absent held out (within cov path) (within (within out cov) path) (codes "end") (tables_with cov tileref paths tiles)
    (tile_place out cov path m.out_utf8 m.cov_utf8 m.cov_some (All-from_recursion IsInner paths m.inner k [] below)) m.others
    (all_both (IsOther (st ++ codes "end")) (files_of_table (tiles_table tileref)) (files_made (all_tables cov paths tiles))
    (tileref_apart st 101 110 100 tileref (λ e. omega (arith, e)) (λ e. omega (arith, e)))
    (ends_apart cov st paths tiles m.cov_utf8 m.inner (λ j Q e. m.alike k j P Q is e none)))

-- ---- the coverage

-- the folder holds it
pub made_held : (held : Files) (out cov : List ℕ) (tileref : Grid) (paths : List (List ℕ)) (tiles : List (Option PrimitiveTables))
    → IsMadeOf held out cov tileref paths tiles → HoldsCoverage held out cov (tiled_read out cov tileref paths tiles)
made_held held out cov tileref paths tiles m =
    let first = tiles_table tileref in
    let whole = tables_with cov tileref paths tiles in
    let before = read_files out (first ∷ []) in
    let at = length before in
    let read = tiles_at out cov at paths tiles in
    let few = m.few in
    let all = bytes_moved out (files_made whole) in
    record {
      are = inr (record {
        tileref = tileref;
        tiles = read;
        before = before;
        behind = read_files out (all_tables cov paths tiles);
        is = ap (λ (x : List (List ℕ)). tiled_coverage x read) (sym m.paths_are);
        are = read_both out (first ∷ []) (all_tables cov paths tiles);
        tileref_is = tileref_read held out cov tileref paths tiles m;
        right = m.right;
        bounded = m.bounded;
        tiles_are = subst (λ (x : List (List ℕ)). AreTilesFiles (within out cov) at x read (read_files out (all_tables cov paths tiles)))
            (sym m.paths_are) (tiles_read out cov m.out_utf8 m.cov_utf8 m.cov_some m.opens at paths tiles m.many m.inner m.readable.1);
        some = some_has out cov at paths tiles m.many ∙ m.some;
      });
      there = files_held held out (files_made whole) m.there (all_small m.opens whole m.readable);
      few = omega (arith, few, all);
      own = no_own held out cov tileref paths tiles m;
      tiles = lacks_of_each held out cov at paths tiles (no_edges held out cov tileref paths tiles m) (no_ends held out cov tileref paths tiles m);
    }
