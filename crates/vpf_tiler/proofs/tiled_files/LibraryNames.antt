-- No two files of a tiled library have one name.
use Rattle.std.proofs.Common.{[], ◌≡◌, ◌≢◌, ◌<◌, ◌≤◌, ℕ, suc, zero, Bool, true, false, leb, ◌&&◌, List, ◌∷◌, ◌++◌, length, map, Option, None, Some, refl, sym, ap, subst, ◌∙◌, arith}
use Rattle.std.specs.Prelude.{IsUtf8, codes, encode_utf8, if◌then◌else◌}
use Rattle.std.specs.List.{AllByRecursion}
use Rattle.std.proofs.lemmas.Bool.{and_parts, leb-true}
use Rattle.std.proofs.lemmas.List.{append_cancel_left, get_or-map, length-map}
use Rattle.std.proofs.lemmas.Str.{encode_ascii}
use Rattle.vpf_source.specs.Names.Indexes.{without_last}
use Rattle.vpf_source.specs.Inner.Names.LetterLaws.{last_dropped}
use Rattle.vpf_table.specs.Grid.{Grid}
use Rattle.vpf_prims.specs.Lists.{kth}
use Rattle.vpf_prims.specs.Primitives.{Primitives}
use Rattle.vpf_prims.specs.Reading.{PrimitiveTables}
use Rattle.vpf_library_files.specs.Tileref.Paths.{TilePath, path_text}
use Rattle.vpf_library_files.specs.Tileref.Stops.{path_texts}
use Rattle.vpf_library_files.specs.Tileref.Tileref.{IsTileref, paths_of}
use Rattle.vpf_library_files.specs.Loading.Loading.{within}
use Rattle.vpf_tiling.specs.Ranks.{up_to}
use Rattle.vpf_tiling.specs.Tiles.{is_made}
use Rattle.vpf_primitive_tables.specs.TileTables.Grids.{entities_made}
use Rattle.vpf_library_files.specs.TableFiles.Adding.{NamedTable, files_made, table_within}
use Rattle.vpf_tiler.specs.TileFiles.Tables.{all_tile_tables, tile_edge_table, entity_tables, face_table, library_tables, node_table, tile_ring_table, tables_if_made, tile_tables, tileref_table}
use Rattle.vpf_tiler.specs.Inner.TiledFiles.AbsentLaws.{one_folder}
use Rattle.vpf_tiler.specs.Inner.TiledFiles.StemLaws.{within_utf8, within_is}
use Rattle.vpf_tiler.specs.Inner.TiledFiles.PathLaws.{one_path, path_is_inner, IsInner}
use Rattle.vpf_tiler.specs.Inner.TiledFiles.Names.{NamesDiffer, NamesDifferWithin, file_in}
use Rattle.vpf_tiler.proofs.tiled_files.Pairs.{apart_lists, pairs_apart}
use Rattle.vpf_tiler.specs.Inner.TiledFiles.PairLaws.{Apart, all_of_lists, all_weaker, apart_made}
use Rattle.vpf_tiler.specs.Inner.TiledFiles.NameLaws.{HasLetter, IsInFolder, OtherFile, OtherStem, letters_apart, made_apart, stem_of_three, three_in_folder}
use Rattle.vpf_tiler.specs.Inner.TiledFiles.EntryLaws.{HasStem}

-- ---- the tables of one tile

edges_in_folder : (folder : List ℕ) (g : Grid) → IsUtf8 folder → IsInFolder folder (table_within folder (codes "edg") g)
edges_in_folder folder g u =
    three_in_folder folder 101 100 103 g u (omega arith) (omega arith) (omega arith) refl (λ e. omega (arith, e)) (λ e. omega (arith, e))

faces_in_folder : (folder : List ℕ) (g : Grid) → IsUtf8 folder → IsInFolder folder (table_within folder (codes "fac") g)
faces_in_folder folder g u =
    three_in_folder folder 102 97 99 g u (omega arith) (omega arith) (omega arith) refl (λ e. omega (arith, e)) (λ e. omega (arith, e))

rings_in_folder : (folder : List ℕ) (g : Grid) → IsUtf8 folder → IsInFolder folder (table_within folder (codes "rng") g)
rings_in_folder folder g u =
    three_in_folder folder 114 110 103 g u (omega arith) (omega arith) (omega arith) refl (λ e. omega (arith, e)) (λ e. omega (arith, e))

nodes_in_folder : (folder : List ℕ) (g : Grid) → IsUtf8 folder → IsInFolder folder (table_within folder (codes "cnd") g)
nodes_in_folder folder g u =
    three_in_folder folder 99 110 100 g u (omega arith) (omega arith) (omega arith) refl (λ e. omega (arith, e)) (λ e. omega (arith, e))

ends_in_folder : (folder : List ℕ) (g : Grid) → IsUtf8 folder → IsInFolder folder (table_within folder (codes "end") g)
ends_in_folder folder g u =
    three_in_folder folder 101 110 100 g u (omega arith) (omega arith) (omega arith) refl (λ e. omega (arith, e)) (λ e. omega (arith, e))

-- each is in its folder
tile_in_folder : (folder : List ℕ) (T : PrimitiveTables) (c : Primitives) (plan : ℕ → ℕ) (t : ℕ) → IsUtf8 folder
    → AllByRecursion (IsInFolder folder) (tile_tables folder T c plan t)
tile_in_folder folder T c plan t u = (
  edges_in_folder folder (tile_edge_table folder T c plan t).grid u,
  (
    faces_in_folder folder (face_table folder T c plan t).grid u,
    (
      rings_in_folder folder (tile_ring_table folder T c plan t).grid u,
      (nodes_in_folder folder (node_table folder T c plan t).grid u, by T.end),
    ),
  ),
)
  where
    by : (end : Option Grid) → AllByRecursion (IsInFolder folder) (entity_tables folder end c plan t)
    by None = tt
    by (Some grid) = (ends_in_folder folder (entities_made grid c plan t) u, tt)

-- four tables and others that have letters of their own are apart
letters_apart_in : (folder : List ℕ) (edg fac rng cnd : NamedTable) (ends : List NamedTable) → HasStem folder 101 100 edg → HasStem folder 102 97 fac
    → HasStem folder 114 110 rng → HasStem folder 99 110 cnd → AllByRecursion (HasStem folder 101 110) ends → Apart OtherStem ends
    → Apart OtherStem (edg ∷ fac ∷ rng ∷ cnd ∷ ends)
letters_apart_in folder edg fac rng cnd ends e f r n all apart = (
  (
    first 101 100 102 97 edg fac e f (λ h. omega (arith, h)),
    (
      first 101 100 114 110 edg rng e r (λ h. omega (arith, h)),
      (first 101 100 99 110 edg cnd e n (λ h. omega (arith, h)), others 101 100 edg e (λ h k. omega (arith, k)) ends all),
    ),
  ),
  (
    (
      first 102 97 114 110 fac rng f r (λ h. omega (arith, h)),
      (first 102 97 99 110 fac cnd f n (λ h. omega (arith, h)), others 102 97 fac f (λ h k. omega (arith, h)) ends all),
    ),
    (
      (first 114 110 99 110 rng cnd r n (λ h. omega (arith, h)), others 114 110 rng r (λ h k. omega (arith, h)) ends all),
      (others 99 110 cnd n (λ h k. omega (arith, h)) ends all, apart),
    ),
  ),
)
  where
    first : (a b d k : ℕ) (x y : NamedTable) → HasStem folder a b x → HasStem folder d k y → a ≢ d → OtherStem x y
    first a b d k x y h l ne = letters_apart (within folder []) (within folder []) a b d k x y h l (λ s p q. ne p)

    others : (a b : ℕ) (x : NamedTable) → HasStem folder a b x → (a ≡ 101 → b ≡ 110 → ⊥) → (ends : List NamedTable)
        → AllByRecursion (HasStem folder 101 110) ends → AllByRecursion (OtherStem x) ends
    others a b x h ne ends all =
        all_weaker (HasStem folder 101 110) (OtherStem x)
        (λ y l. letters_apart (within folder []) (within folder []) a b 101 110 x y h l (λ s p q. ne p q)) ends all

-- so are those of a tile
tile_apart : (folder : List ℕ) (T : PrimitiveTables) (c : Primitives) (plan : ℕ → ℕ) (t : ℕ) → IsUtf8 folder
    → Apart OtherStem (tile_tables folder T c plan t)
tile_apart folder T c plan t u =
    let ends = by T.end in
    letters_apart_in folder (tile_edge_table folder T c plan t) (face_table folder T c plan t) (tile_ring_table folder T c plan t) (node_table folder T c plan t)
    (entity_tables folder T.end c plan t)
    (stem_of_three folder 101 100 103 u (omega arith) (omega arith) (omega arith) refl)
    (stem_of_three folder 102 97 99 u (omega arith) (omega arith) (omega arith) refl)
    (stem_of_three folder 114 110 103 u (omega arith) (omega arith) (omega arith) refl)
    (stem_of_three folder 99 110 100 u (omega arith) (omega arith) (omega arith) refl) ends.0 ends.1
  where
    by : (end : Option Grid) → AllByRecursion (HasStem folder 101 110) (entity_tables folder end c plan t)
        × Apart OtherStem (entity_tables folder end c plan t)
    by None = (tt, tt)
    by (Some grid) = ((stem_of_three folder 101 110 100 u (omega arith) (omega arith) (omega arith) refl, tt), (tt, tt))

-- ---- the paths of tiles

-- each tile has a path of its own
record HaveOwnPaths (paths : List (List ℕ)) (tiles : ℕ) : Type 0 where
  inner : (t : ℕ) → 1 ≤ t → t ≤ tiles → IsInner (kth paths t [])
  apart : (s t : ℕ) → 1 ≤ s → s ≤ tiles → 1 ≤ t → t ≤ tiles → kth paths s [] ≡ kth paths t [] → s ≡ t

own_paths : (tileref : Grid) → IsTileref tileref → HaveOwnPaths (path_texts tileref) (length tileref.rows)
own_paths tileref right = record {
  inner = λ t h k. subst IsInner (sym (text t h k)) (path_is_inner (kth paths t []) (right.paths t (h, k)));
  apart = λ s t h k l m e.
      right.apart s t (h, k) (l, m)
      (one_path (kth paths s []) (kth paths t []) (right.paths s (h, k)) (right.paths t (l, m)) (sym (text s h k) ∙ e ∙ text t l m));
}
  where
    paths : List TilePath
    paths = paths_of tileref

    many : length paths ≡ length tileref.rows
    many = length-map tileref.rows _

    text : (t : ℕ) → 1 ≤ t → t ≤ length tileref.rows → kth (path_texts tileref) t [] ≡ path_text (kth paths t [])
    text zero h k = absurd (omega (arith, h))
    text (suc t) h k = get_or-map path_text paths t [] [] (omega (arith, many, k))

-- ---- the tables of all tiles

-- a table in the folder of a tile
record IsOfTile (cov : List ℕ) (paths : List (List ℕ)) (tiles t : ℕ) (table : NamedTable) : Type 0 where
  from_one : 1 ≤ t
  to_last : t ≤ tiles
  in_folder : IsInFolder (within cov (kth paths t [])) table

made_between : (c : Primitives) (plan : ℕ → ℕ) (tiles t : ℕ) → is_made c plan tiles t ≡ true → (1 ≤ t) × (t ≤ tiles)
made_between c plan tiles t h =
    let a = (and_parts (leb 1 t && leb t tiles) _ h).0 in
    let b = and_parts (leb 1 t) (leb t tiles) a in
    (leb-true 1 t b.0, leb-true t tiles b.1)

of_tile : (cov : List ℕ) (paths : List (List ℕ)) (T : PrimitiveTables) (c : Primitives) (plan : ℕ → ℕ) (tiles t : ℕ) → IsUtf8 cov
    → HaveOwnPaths paths tiles
    → AllByRecursion (IsOfTile cov paths tiles t) (tables_if_made cov paths T c plan tiles t) × Apart OtherStem (tables_if_made cov paths T c plan tiles t)
of_tile cov paths T c plan tiles t u own = by (is_made c plan tiles t) (made_between c plan tiles t)
  where
    by : (made : Bool) → (made ≡ true → (1 ≤ t) × (t ≤ tiles))
        → AllByRecursion (IsOfTile cov paths tiles t) (if made then tile_tables (within cov (kth paths t [])) T c plan t else [])
        × Apart OtherStem (if made then tile_tables (within cov (kth paths t [])) T c plan t else [])
    by false between = (tt, tt)
    by true between =
        let p = between refl in
        let folder = within cov (kth paths t []) in
        let v = within_utf8 cov (kth paths t []) u (own.inner t p.0 p.1).utf8 in (
          all_weaker (IsInFolder folder) (IsOfTile cov paths tiles t) (λ x i. record { from_one = p.0; to_last = p.1; in_folder = i })
              (tile_tables folder T c plan t) (tile_in_folder folder T c plan t v),
          tile_apart folder T c plan t v,
        )

-- tables of two tiles are apart
tiles_apart : (cov : List ℕ) (paths : List (List ℕ)) (tiles : ℕ) → HaveOwnPaths paths tiles → (s t : ℕ) (x y : NamedTable) → s < t
    → IsOfTile cov paths tiles s x → IsOfTile cov paths tiles t y → OtherStem x y
tiles_apart cov paths tiles own s t x y less p q =
    let first = kth paths s [] in
    let second = kth paths t [] in
    letters_apart (within (within cov first) []) (within (within cov second) []) p.in_folder.first p.in_folder.second q.in_folder.first
    q.in_folder.second x y p.in_folder.stem q.in_folder.stem
    (λ e h k.
    let same : first ≡ second = one_folder cov first second (own.inner s p.from_one p.to_last) (own.inner t q.from_one q.to_last) e in
    let one : s ≡ t = own.apart s t p.from_one p.to_last q.from_one q.to_last same in
    omega (arith, one, less))

-- a table in the folder of some tile
pub record IsTileTable (cov : List ℕ) (table : NamedTable) : Type 0 where
  pub path : List ℕ
  pub inner : IsInner path
  pub in_folder : IsInFolder (within cov path) table

-- so are all tables of tiles
pub tables_of_tiles : (cov : List ℕ) (T : PrimitiveTables) (c : Primitives) (plan : ℕ → ℕ) (tileref : Grid) → IsUtf8 cov → IsTileref tileref
    → AllByRecursion (IsTileTable cov) (all_tile_tables cov (path_texts tileref) T c plan (length tileref.rows))
tables_of_tiles cov T c plan tileref u right =
    let paths = path_texts tileref in
    let tiles = length tileref.rows in
    let own = own_paths tileref right in
    let made = tables_if_made cov paths T c plan tiles in
    all_of_lists (IsTileTable cov) made
    (λ t. all_weaker (IsOfTile cov paths tiles t) (IsTileTable cov)
    (λ x p. record { path = kth paths t []; inner = own.inner t p.from_one p.to_last; in_folder = p.in_folder }) (made t)
    (of_tile cov paths T c plan tiles t u own).0) (up_to tiles)

-- ---- the library

tileref_stem : without_last (codes "tileref/tileref.aft") ≡ codes "tileref/tileref." ++ 97 ∷ 102 ∷ []
unfolding lib.Utf8.encode
tileref_stem =
    let utf8 : IsUtf8 (codes "tileref/tileref.af") = (codes "tileref/tileref.af", (refl, refl)) in
    let last : codes "tileref/tileref.aft" ≡ codes "tileref/tileref.af" ++ encode_utf8 116 =
    ap (λ (x : List ℕ). codes "tileref/tileref.af" ++ x) (sym (encode_ascii 116 (omega arith))) in
    ap without_last last ∙ last_dropped (codes "tileref/tileref.af") 116 utf8 refl

tileref_has_letter : (g : Grid) → HasLetter (table_within (codes "tileref") (codes "tileref.aft") g)
tileref_has_letter g = record { letter = 116; is = ap (λ (x : List ℕ). x ++ 116 ∷ []) (sym tileref_stem); other = λ e. omega (arith, e) }

library_apart : (cov : List ℕ) (T : PrimitiveTables) (c : Primitives) (plan : ℕ → ℕ) (tileref : Grid) → IsUtf8 cov → IsTileref tileref
    → Apart OtherFile (files_made (library_tables cov T c plan tileref))
library_apart cov T c plan tileref u right =
    let paths = path_texts tileref in
    let tiles = length tileref.rows in
    let own = own_paths tileref right in
    let made = tables_if_made cov paths T c plan tiles in
    let all = all_tile_tables cov paths T c plan tiles in
    let each : (t : ℕ) → AllByRecursion (IsOfTile cov paths tiles t) (made t) = λ t. (of_tile cov paths T c plan tiles t u own).0 in
    let lettered : AllByRecursion HasLetter all =
    all_of_lists HasLetter made (λ t. all_weaker (IsOfTile cov paths tiles t) HasLetter (λ x p. p.in_folder.letter) (made t) (each t)) (up_to tiles) in
    let far : AllByRecursion (OtherStem (tileref_table tileref)) all =
    all_of_lists (OtherStem (tileref_table tileref)) made
    (λ t. all_weaker (IsOfTile cov paths tiles t) (OtherStem (tileref_table tileref)) (λ x p. tileref_apart t x p) (made t) (each t)) (up_to tiles) in
    let apart : Apart OtherStem all =
    apart_lists OtherStem (IsOfTile cov paths tiles) made each (λ t. (of_tile cov paths T c plan tiles t u own).1) (tiles_apart cov paths tiles own) 1 tiles in
    made_apart (library_tables cov T c plan tileref) (tileref_has_letter (tileref_table tileref).grid, lettered) (far, apart)
  where
    tileref_apart : (t : ℕ) (x : NamedTable) → IsOfTile cov (path_texts tileref) (length tileref.rows) t x → OtherStem (tileref_table tileref) x
    tileref_apart t x p =
        letters_apart (codes "tileref/tileref.") (within (within cov (kth (path_texts tileref) t [])) []) 97 102 p.in_folder.first p.in_folder.second
        (tileref_table tileref) x tileref_stem p.in_folder.stem (λ s h k. p.in_folder.inner (sym h))

pub names_differ : NamesDiffer
names_differ cov T c plan tileref u right =
    pairs_apart OtherFile (files_made (library_tables cov T c plan tileref)) (library_apart cov T c plan tileref u right)

-- within a folder too
pub names_differ_within : NamesDifferWithin
names_differ_within out cov T c plan tileref u right =
    let files = files_made (library_tables cov T c plan tileref) in
    pairs_apart OtherFile (map (file_in out) files)
    (apart_made OtherFile OtherFile (file_in out)
    (λ a b ne e. ne (append_cancel_left (within out []) a.name b.name (sym (within_is out a.name) ∙ e ∙ within_is out b.name))) files
    (library_apart cov T c plan tileref u right))
