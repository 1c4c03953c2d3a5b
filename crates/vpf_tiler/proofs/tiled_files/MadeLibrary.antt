-- The files of the tiled library of a coverage, in a folder that holds them and no others, are the coverage cut into tiles.
use Rattle.std.proofs.Common.{[], ◌≡◌, ◌≢◌, ◌<◌, ◌≤◌, ℕ, suc, zero, ◌+◌, Bool, true, false, List, ◌∷◌, ◌++◌, length, map, get_or, Option, Some, None, refl, sym, ap, subst, ◌∙◌, arith}
use Rattle.std.specs.Prelude.{All, IsUtf8, is_some, flat_map, if◌then◌else◌, ◌&&◌, nat_le}
use Rattle.std.specs.List.{AllByRecursion, list_any, range_with_len}
use Rattle.std.specs.Option.{option_map}
use Rattle.std.proofs.lemmas.Bool.{le-leb, lt-leb}
use Rattle.std.proofs.lemmas.List.{length-map}
use Rattle.std.proofs.lemmas.List.FromFn.{length-range_with_len}
use Rattle.vpf_base.specs.Limits.{longest_name}
use Rattle.vpf_source.specs.Files.{Files}
use Rattle.vpf_source.specs.declared.file.File.{File}
use Rattle.vpf_table.specs.Grid.{Grid}
use Rattle.vpf_prims.specs.Coverages.{tile_at, tiled_coverage}
use Rattle.vpf_prims.specs.Lists.{kth}
use Rattle.vpf_prims.specs.Reading.{PrimitiveTables, primitives_of}
use Rattle.vpf_prims.specs.Tables.{TileTables}
use Rattle.vpf_library_files.specs.Tileref.Paths.{path_text}
use Rattle.vpf_library_files.specs.Tileref.Stops.{path_texts}
use Rattle.vpf_library_files.specs.Tileref.Tileref.{paths_of}
use Rattle.vpf_library_files.specs.Loading.Holding.{bytes_in}
use Rattle.vpf_library_files.specs.Loading.Loading.{most_loaded, within}
use Rattle.vpf_tiling.specs.Inner.RankLaws.{numbered_many}
use Rattle.vpf_tiling.specs.Tiles.{is_made}
use Rattle.vpf_primitive_tables.specs.TileTables.Grids.{entities_made, tiles_made}
use Rattle.vpf_library_files.specs.TableFiles.Adding.{NamedTable, files_made}
use Rattle.vpf_tiler.specs.TileFiles.Tables.{tile_edge_table, entity_tables, face_table, library_tables, node_table, tile_ring_table, tables_if_made, tile_tables, tileref_table}
use Rattle.vpf_primitive_tables.specs.Inner.TileReading.Cuts.{IsCutInto, tables_if_any, tables_of_tile}
use Rattle.vpf_tiler.specs.Inner.TiledFiles.Folders.{CanBeMade, HoldsExactly}
use Rattle.vpf_tiler.specs.Inner.TiledFiles.Laws.{MadeIsHeld}
use Rattle.vpf_tiler.proofs.tiled_files.ReadTables.{can_be_read}
use Rattle.vpf_tiler.specs.Inner.TiledFiles.TableLaws.{TableCanBeRead as CanBeRead}
use Rattle.vpf_tiler.proofs.tiled_files.ReadTiles.{all_tables, tables_at, tiles_at}
use Rattle.vpf_tiler.specs.Inner.TiledFiles.TileLaws.{EachOpens, end_in, tables_held as tables_in}
use Rattle.vpf_tiler.specs.Inner.TiledFiles.AbsentLaws.{IsOtherName as IsOther}
use Rattle.vpf_tiler.proofs.tiled_files.HeldTiles.{IsMadeOf, as_many, made_held, tables_of_each, tables_with, tiled_read}
use Rattle.vpf_tiler.specs.Inner.TiledFiles.LibraryLaws.{own_paths, HaveOwnPaths}

-- ---- the tables

-- the tables of a tile are those that are made for it
tile_same : (folder : List ℕ) (T : PrimitiveTables) (plan : ℕ → ℕ) (t : ℕ)
    → tile_tables folder T (primitives_of T) plan t ≡ tables_in folder (tables_of_tile T plan t)
tile_same folder T plan t =
    ap (λ (x : List NamedTable). tile_edge_table folder T (primitives_of T) plan t ∷ face_table folder T (primitives_of T) plan t
    ∷ tile_ring_table folder T (primitives_of T) plan t ∷ node_table folder T (primitives_of T) plan t ∷ x) (by T.end)
  where
    by : (end : Option Grid) → entity_tables folder end (primitives_of T) plan t
        ≡ end_in folder (option_map (λ grid. entities_made grid (primitives_of T) plan t) end)
    by None = refl
    by (Some grid) = refl

-- or none, of an empty one
tables_same : (folder : List ℕ) (T : PrimitiveTables) (plan : ℕ → ℕ) (t : ℕ) (made : Bool)
    → (if made then tile_tables folder T (primitives_of T) plan t else []) ≡ tables_at folder (if made then Some (tables_of_tile T plan t) else None)
tables_same folder T plan t true = tile_same folder T plan t
tables_same folder T plan t false = refl

-- those of so many tiles from tile t on, whose paths are the first of these
abbrev pub tiles_from : PrimitiveTables → (ℕ → ℕ) → (tiles t n : ℕ) → List (Option PrimitiveTables)
tiles_from T plan tiles t n = map (tables_if_any T plan tiles) (range_with_len t n)

tables_from : (cov : List ℕ) (whole : List (List ℕ)) (T : PrimitiveTables) (plan : ℕ → ℕ) (tiles t : ℕ) (paths : List (List ℕ))
    → ((k : ℕ) → k < length paths → kth whole (t + k) [] ≡ get_or paths k [])
    → flat_map (tables_if_made cov whole T (primitives_of T) plan tiles) (range_with_len t (length paths))
    ≡ all_tables cov paths (tiles_from T plan tiles t (length paths))
tables_from cov whole T plan tiles t [] are = refl
tables_from cov whole T plan tiles t (path ∷ paths) are =
    let e : t + 0 ≡ t = omega arith in
    let here : kth whole t [] ≡ path = ap (λ (i : ℕ). kth whole i []) (sym e) ∙ are 0 (omega arith) in
    let first : tables_if_made cov whole T (primitives_of T) plan tiles t ≡ tables_at (within cov path) (tables_if_any T plan tiles t) =
    ap (λ (p : List ℕ). if is_made (primitives_of T) plan tiles t then tile_tables (within cov p) T (primitives_of T) plan t else []) here
    ∙ tables_same (within cov path) T plan t (is_made (primitives_of T) plan tiles t) in
    let rest = tables_from cov whole T plan tiles (t + 1) paths (λ k h.
    let s : t + suc k ≡ (t + 1) + k = omega arith in
    ap (λ (i : ℕ). kth whole i []) (sym s) ∙ are (suc k) (omega (arith, h))) in
    ap (λ (x : List NamedTable). x ++ flat_map (tables_if_made cov whole T (primitives_of T) plan tiles) (range_with_len (t + 1) (length paths))) first
    ∙ ap (λ (x : List NamedTable). tables_at (within cov path) (tables_if_any T plan tiles t) ++ x) rest

-- all tables of the library
library_same : (cov : List ℕ) (T : PrimitiveTables) (plan : ℕ → ℕ) (tileref : Grid)
    → library_tables cov T (primitives_of T) plan tileref
    ≡ tables_with cov (tiles_made tileref) (path_texts tileref) (tiles_from T plan (length tileref.rows) 1 (length tileref.rows))
library_same cov T plan tileref =
    let n = length tileref.rows in
    let paths = path_texts tileref in
    let many : length paths ≡ n = length-map (paths_of tileref) path_text ∙ length-map tileref.rows _ in
    ap (λ (x : List NamedTable). tileref_table tileref ∷ x)
    (subst (λ (m : ℕ). flat_map (tables_if_made cov paths T (primitives_of T) plan n) (range_with_len 1 m) ≡ all_tables cov paths (tiles_from T plan n 1 m))
    many
    (tables_from cov paths T plan n 1 paths (λ k h. let s : 1 + k ≡ suc k = omega arith in ap (λ (i : ℕ). kth paths i []) s)))

-- ---- the tiles

and_off : (a b c : Bool) → b ≡ false → (a && b && c) ≡ false
and_off true b c e = rw e refl
and_off false b c e = refl

-- no tile behind the last has tables
none_behind : (T : PrimitiveTables) (plan : ℕ → ℕ) (tiles t : ℕ) → tiles < t → tables_if_any T plan tiles t ≡ None
none_behind T plan tiles t h =
    ap (λ (b : Bool). if b then Some (tables_of_tile T plan t) else None) (and_off (nat_le 1 t) (nat_le t tiles) _ (lt-leb t tiles h))

tile_from : (T : PrimitiveTables) (plan : ℕ → ℕ) (tiles t n k : ℕ) → t + n ≡ suc tiles
    → get_or (tiles_from T plan tiles t n) k None ≡ tables_if_any T plan tiles (t + k)
tile_from T plan tiles t zero k last = sym (none_behind T plan tiles (t + k) (omega (arith, last)))
tile_from T plan tiles t (suc n) zero last = let e : t ≡ t + 0 = omega arith in ap (tables_if_any T plan tiles) e
tile_from T plan tiles t (suc n) (suc k) last =
    let e : (t + 1) + k ≡ t + suc k = omega arith in
    tile_from T plan tiles (t + 1) n k (omega (arith, last)) ∙ ap (tables_if_any T plan tiles) e

-- the tables of a tile that isn't empty
of_tile : (T : PrimitiveTables) (plan : ℕ → ℕ) (t : ℕ) (made : Bool) (P : PrimitiveTables) → (if made then Some (tables_of_tile T plan t) else None) ≡ Some P
    → tables_of_tile T plan t ≡ P
of_tile T plan t true P e = cc
of_tile T plan t false P e = absurd cc

no_end : (f : Grid → Grid) (end : Option Grid) → option_map f end ≡ None → end ≡ None
no_end f None e = refl
no_end f (Some grid) e = absurd cc

-- they have entity nodes where the coverage has them
end_of_tile : (T : PrimitiveTables) (plan : ℕ → ℕ) (tiles t : ℕ) (P : PrimitiveTables) → tables_if_any T plan tiles t ≡ Some P
    → P.end ≡ option_map (λ grid. entities_made grid (primitives_of T) plan t) T.end
end_of_tile T plan tiles t P e = ap (λ (p : PrimitiveTables). p.end) (sym (of_tile T plan t (is_made (primitives_of T) plan tiles t) P e))

all_alike : (T : PrimitiveTables) (plan : ℕ → ℕ) (tiles s t : ℕ) (P Q : PrimitiveTables) → tables_if_any T plan tiles s ≡ Some P
    → tables_if_any T plan tiles t ≡ Some Q → P.end ≡ None → Q.end ≡ None
all_alike T plan tiles s t P Q p q none =
    let end : T.end ≡ None = no_end (λ grid. entities_made grid (primitives_of T) plan s) T.end (sym (end_of_tile T plan tiles s P p) ∙ none) in
    end_of_tile T plan tiles t Q q ∙ ap (option_map (λ grid. entities_made grid (primitives_of T) plan t)) end

-- the first tile has tables
first_some : (T : PrimitiveTables) (plan : ℕ → ℕ) (tiles : ℕ) → 1 ≤ tiles → list_any is_some (tiles_from T plan tiles 1 tiles) ≡ true
first_some T plan zero h = absurd (omega (arith, h))
first_some T plan (suc n) h = rw (le-leb 1 (suc n) h) refl

-- ---- the paths

-- ---- the coverage

-- the tables of the library are made, as the tables of these tiles
library_made : EachOpens → (held : Files) (out cov : List ℕ) (T : PrimitiveTables) (plan : ℕ → ℕ) (tileref : Grid) → IsUtf8 out → IsUtf8 cov → cov ≢ []
    → CanBeMade cov T plan tileref → HoldsExactly held out (files_made (library_tables cov T (primitives_of T) plan tileref))
    → IsMadeOf held out cov (tiles_made tileref) (path_texts tileref) (tiles_from T plan (length tileref.rows) 1 (length tileref.rows))
library_made opens held out cov T plan tileref u v some m h =
    let n = length tileref.rows in
    let same = library_same cov T plan tileref in
    let own : HaveOwnPaths (path_texts tileref) = subst HaveOwnPaths m.paths (own_paths (tiles_made tileref) m.right) in
    let rows : length (tiles_made tileref).rows ≡ n = numbered_many _ 1 tileref.rows in
    let one = m.right.some in
    let few = m.bounded.few in
    let at : (k : ℕ) → get_or (tiles_from T plan n 1 n) k None ≡ tables_if_any T plan n (1 + k) = λ k. tile_from T plan n 1 n k (omega arith) in
    record {
      out_utf8 = u;
      cov_utf8 = v;
      cov_some = some;
      right = m.right;
      bounded = record { few = omega (arith, rows, few); short = subst (All (λ text. length text ≤ longest_name)) (sym m.paths) m.bounded.short };
      paths_are = m.paths;
      many = length-map (paths_of tileref) path_text ∙ length-map tileref.rows _
          ∙ sym (length-map (range_with_len 1 n) (tables_if_any T plan n) ∙ length-range_with_len 1 n);
      inner = own.inner;
      apart = own.apart;
      alike = λ j k P Q p q. all_alike T plan n (1 + j) (1 + k) P Q (sym (at j) ∙ p) (sym (at k) ∙ q);
      some = first_some T plan n (omega (arith, rows, one));
      opens = opens;
      readable = subst (AllByRecursion CanBeRead) same (can_be_read (library_tables cov T (primitives_of T) plan tileref) m.writable m.fits);
      there = subst (λ (x : List NamedTable). AllByRecursion (λ (file : File). held (within out file.name) ≡ Some file.bytes) (files_made x)) same h.there;
      others = subst (λ (x : List NamedTable). (name : List ℕ) → AllByRecursion (IsOther name) (files_made x) → held (within out name) ≡ None) same h.others;
      few = subst (λ (x : List NamedTable). bytes_in (files_made x) ≤ most_loaded) same m.few;
    }

-- it is cut into the tiles
is_cut : (out cov : List ℕ) (at : ℕ) (T : PrimitiveTables) (plan : ℕ → ℕ) (paths : List (List ℕ)) (n : ℕ) → length paths ≡ n
    → IsCutInto T plan n (tiled_coverage paths (tiles_at out cov at paths (tiles_from T plan n 1 n)))
is_cut out cov at T plan paths n many =
    let tiles = tiles_from T plan n 1 n in
    let long : length tiles ≡ n = length-map (range_with_len 1 n) (tables_if_any T plan n) ∙ length-range_with_len 1 n in
    let all : length paths ≡ length tiles = many ∙ sym long in
    record {
      tiled = refl;
      last = let e : length (tiles_at out cov at paths tiles) ≡ length tiles = as_many out cov at paths tiles all in omega (arith, e, long);
      at = λ t. each t all;
    }
  where
    each : (t : ℕ) → length paths ≡ length (tiles_from T plan n 1 n)
        → option_map (λ (tile : TileTables). tile.tables) (tile_at (tiled_coverage paths (tiles_at out cov at paths (tiles_from T plan n 1 n))) t)
        ≡ tables_if_any T plan n t
    each zero all = refl
    each (suc k) all =
        let s : 1 + k ≡ suc k = omega arith in
        tables_of_each out cov at paths (tiles_from T plan n 1 n) k all ∙ tile_from T plan n 1 n k (omega arith) ∙ ap (tables_if_any T plan n) s

pub made_is_held : EachOpens → MadeIsHeld
made_is_held opens held out cov T plan tileref u v some m h =
    let n = length tileref.rows in
    let paths = path_texts tileref in
    let tiles = tiles_from T plan n 1 n in
    let many : length paths ≡ n = length-map (paths_of tileref) path_text ∙ length-map tileref.rows _ in
    let made = library_made opens held out cov T plan tileref u v some m h in
    record {
      loaded = tiled_read out cov (tiles_made tileref) paths tiles;
      cut = is_cut out cov _ T plan paths n many;
      holds = made_held held out cov (tiles_made tileref) paths tiles made;
    }
