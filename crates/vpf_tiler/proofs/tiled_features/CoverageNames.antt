-- No two files of a tiled coverage that files are have one name.
use Rattle.std.proofs.Common.{[], ◌≡◌, ℕ, ◌+◌, Bool, true, false, cond, List, ◌∷◌, ◌++◌, length, map, Option, Some, None, refl, sym, ap, ◌∙◌, arith, inl, inr, append_assoc, subst}
use Rattle.std.specs.Prelude.{IsUtf8, codes}
use Rattle.std.specs.List.{AllByRecursion}
use Rattle.std.proofs.lemmas.List.{append-nil, map-append}
use Rattle.std.proofs.lemmas.List.Concat.{flat_map-append}
use Rattle.std.proofs.lemmas.Str.{encode_ascii}
use Rattle.vpf_source.specs.declared.file.File.{File}
use Rattle.vpf_head.specs.Head.{varies_in}
use Rattle.vpf_source.specs.Names.Indexes.{without_last}
use Rattle.vpf_source.specs.Inner.Names.LetterLaws.{last_dropped}
use Rattle.vpf_table.specs.Canonical.{canonical_index}
use Rattle.vpf_table.specs.Grid.{Grid}
use Rattle.vpf_prims.specs.Reading.{PrimitiveTables}
use Rattle.vpf_prims.specs.Tables.{TileTables}
use Rattle.vpf_library_files.specs.Tileref.Stops.{path_texts}
use Rattle.vpf_library_files.specs.Tileref.Tileref.{IsTileref}
use Rattle.vpf_write.specs.Made.Files.{index_files, table_files}
use Rattle.vpf_library_files.specs.Loading.Holding.{AreFilesOf, AreFilesOfOption, AreTileFiles, AreTilesFiles}
use Rattle.vpf_library_files.specs.Loading.Loading.{tileref_name, within}
use Rattle.vpf_library_files.specs.TableFiles.Adding.{NamedTable, files_made, files_of_table, named_table, table_within}
use Rattle.vpf_tiler.specs.Inner.TiledFiles.AbsentLaws.{one_folder}
use Rattle.vpf_tiler.specs.Inner.TiledFiles.StemLaws.{within_utf8, within_is}
use Rattle.vpf_tiler.specs.Inner.TiledFiles.PairLaws.{Apart, all_weaker, apart_both, apart_made}
use Rattle.vpf_base.proofs.Lists.{all_joined as all_both}
use Rattle.vpf_tiler.specs.Inner.TiledFiles.PathLaws.{IsInner}
use Rattle.vpf_tiler.specs.Inner.TiledFiles.TileLaws.{end_in, last_behind, tables_held as tables_in}
use Rattle.vpf_tiler.specs.Inner.TiledFiles.NameLaws.{HasLetter, IsInFolder, OtherFile, OtherStem, letters_apart, made_apart, stem_of_three, three_in_folder}
use Rattle.vpf_tiler.proofs.tiled_features.TilePaths.{OtherText, texts_apart}
use Rattle.vpf_tiler.specs.Inner.TiledFiles.LibraryLaws.{own_paths}
use Rattle.vpf_tiler.specs.Inner.TiledFiles.EntryLaws.{HasStem}

-- the names of files
abbrev pub names : List File → List (List ℕ)
names files = map (λ (file : File). file.name) files

-- ---- they are those of the files that would be made of the tables

plain_index : (grid : Grid) → varies_in grid.head.columns ≡ false → canonical_index grid ≡ None
plain_index grid e = rw e refl

-- where the rows vary there is an index
record HasIndex (index : Option (List ℕ)) : Type 0 where
  bytes : List ℕ
  is : index ≡ Some bytes

if_true : (b : Bool) (bytes : List ℕ) → b ≡ true → HasIndex (cond b (Some bytes) None)
if_true true bytes e = record { bytes = bytes; is = refl }
if_true false bytes e = absurd (cc e)

own_index : (grid : Grid) → varies_in grid.head.columns ≡ true → HasIndex (canonical_index grid)
own_index grid e = if_true (varies_in grid.head.columns) _ e

table_names : (name : List ℕ) (grid : Grid) (files : List File) → AreFilesOf name grid files → names files ≡ names (table_files name grid)
table_names name grid files (inl h) =
    ap names h.are ∙ ap (λ (x : Option (List ℕ)). name ∷ names (index_files name x)) (sym (plain_index grid h.one_length))
table_names name grid files (inr h) =
    ap names h.are ∙ ap (λ (x : Option (List ℕ)). name ∷ names (index_files name x)) (sym (own_index grid h.varies).is)

both_names : (xs ys vs ws : List File) → names xs ≡ names vs → names ys ≡ names ws → names (xs ++ ys) ≡ names (vs ++ ws)
both_names xs ys vs ws e f =
    map-append (λ (file : File). file.name) xs ys ∙ ap (λ (l : List (List ℕ)). l ++ names ys) e ∙ ap (λ (l : List (List ℕ)). names vs ++ l) f
    ∙ sym (map-append (λ (file : File). file.name) vs ws)

end_names : (folder : List ℕ) (end : Option Grid) (files : List File) → AreFilesOfOption (within folder (codes "end")) end files
    → names files ≡ names (files_made (end_in folder end))
end_names folder None files h = ap names h
end_names folder (Some grid) files h =
    table_names (within folder (codes "end")) grid files h ∙ ap names (sym (append-nil (table_files (within folder (codes "end")) grid)))

tile_names : (folder : List ℕ) (P : PrimitiveTables) (files : List File) → AreTileFiles folder P files → names files ≡ names (files_made (tables_in folder P))
tile_names folder P files h =
    let edg = table_files (within folder (codes "edg")) P.edg in
    let fac = table_files (within folder (codes "fac")) P.fac in
    let rng = table_files (within folder (codes "rng")) P.rng in
    let cnd = table_files (within folder (codes "cnd")) P.cnd in
    let end = files_made (end_in folder P.end) in
    ap names h.are
    ∙ both_names h.edg (h.fac ++ (h.rng ++ (h.cnd ++ h.end))) edg (fac ++ (rng ++ (cnd ++ end)))
    (table_names (within folder (codes "edg")) P.edg h.edg h.edg_is)
    (both_names h.fac (h.rng ++ (h.cnd ++ h.end)) fac (rng ++ (cnd ++ end)) (table_names (within folder (codes "fac")) P.fac h.fac h.fac_is)
    (both_names h.rng (h.cnd ++ h.end) rng (cnd ++ end) (table_names (within folder (codes "rng")) P.rng h.rng h.rng_is)
    (both_names h.cnd h.end cnd end (table_names (within folder (codes "cnd")) P.cnd h.cnd h.cnd_is) (end_names folder P.end h.end h.end_is))))

-- the tables of the tiles with these paths
abbrev tables_of : (folder : List ℕ) → List (List ℕ) → List (Option TileTables) → List NamedTable
tables_of folder [] tiles = []
tables_of folder (path ∷ paths) [] = []
tables_of folder (path ∷ paths) (None ∷ tiles) = tables_of folder paths tiles
tables_of folder (path ∷ paths) (Some T ∷ tiles) = tables_in (within folder path) T.tables ++ tables_of folder paths tiles

tiles_names : (folder : List ℕ) (at : ℕ) (paths : List (List ℕ)) (tiles : List (Option TileTables)) (files : List File)
    → AreTilesFiles folder at paths tiles files → names files ≡ names (files_made (tables_of folder paths tiles))
tiles_names folder at [] [] files h = ap names h
tiles_names folder at [] (tile ∷ tiles) files h = absurd h
tiles_names folder at (path ∷ paths) [] files h = absurd h
tiles_names folder at (path ∷ paths) (None ∷ tiles) files h = tiles_names folder at paths tiles files h
tiles_names folder at (path ∷ paths) (Some T ∷ tiles) files h =
    let here = tables_in (within folder path) T.tables in
    let rest = tables_of folder paths tiles in
    ap names h.2
    ∙ both_names h.0 h.1 (files_made here) (files_made rest) (tile_names (within folder path) T.tables h.0 h.4)
    (tiles_names folder (at + length h.0) paths tiles h.1 h.5)
    ∙ ap names (sym (flat_map-append files_of_table here rest))

-- ---- the tables of a tile

far : (folder : List ℕ) (a b d e : ℕ) (x y : NamedTable) → HasStem folder a b x → HasStem folder d e y → (a ≡ d → b ≡ e → ⊥) → OtherStem x y
far folder a b d e x y h k ne = letters_apart (within folder []) (within folder []) a b d e x y h k (λ s p q. ne p q)

far_from_end : (folder : List ℕ) (a b : ℕ) (x : NamedTable) (end : Option Grid) → IsUtf8 folder → HasStem folder a b x → (a ≡ 101 → b ≡ 110 → ⊥)
    → AllByRecursion (OtherStem x) (end_in folder end)
far_from_end folder a b x None u h ne = tt
far_from_end folder a b x (Some g) u h ne = (
  far folder a b 101 110 x (table_within folder (codes "end") g) h (stem_of_three folder 101 110 100 u (omega arith) (omega arith) (omega arith) refl) ne,
  tt,
)

end_apart : (folder : List ℕ) (end : Option Grid) → Apart OtherStem (end_in folder end)
end_apart folder None = tt
end_apart folder (Some g) = (tt, tt)

tile_apart : (folder : List ℕ) (P : PrimitiveTables) → IsUtf8 folder → Apart OtherStem (tables_in folder P)
tile_apart folder P u =
    let edg = table_within folder (codes "edg") P.edg in
    let fac = table_within folder (codes "fac") P.fac in
    let rng = table_within folder (codes "rng") P.rng in
    let cnd = table_within folder (codes "cnd") P.cnd in
    let e : HasStem folder 101 100 edg = stem_of_three folder 101 100 103 u (omega arith) (omega arith) (omega arith) refl in
    let f : HasStem folder 102 97 fac = stem_of_three folder 102 97 99 u (omega arith) (omega arith) (omega arith) refl in
    let r : HasStem folder 114 110 rng = stem_of_three folder 114 110 103 u (omega arith) (omega arith) (omega arith) refl in
    let n : HasStem folder 99 110 cnd = stem_of_three folder 99 110 100 u (omega arith) (omega arith) (omega arith) refl in (
      (
        far folder 101 100 102 97 edg fac e f (λ h k. omega (arith, h)),
        (
          far folder 101 100 114 110 edg rng e r (λ h k. omega (arith, h)),
          (far folder 101 100 99 110 edg cnd e n (λ h k. omega (arith, h)), far_from_end folder 101 100 edg P.end u e (λ h k. omega (arith, k))),
        ),
      ),
      (
        (
          far folder 102 97 114 110 fac rng f r (λ h k. omega (arith, h)),
          (far folder 102 97 99 110 fac cnd f n (λ h k. omega (arith, h)), far_from_end folder 102 97 fac P.end u f (λ h k. omega (arith, h))),
        ),
        (
          (far folder 114 110 99 110 rng cnd r n (λ h k. omega (arith, h)), far_from_end folder 114 110 rng P.end u r (λ h k. omega (arith, h))),
          (far_from_end folder 99 110 cnd P.end u n (λ h k. omega (arith, h)), end_apart folder P.end),
        ),
      ),
    )

tile_in : (folder : List ℕ) (P : PrimitiveTables) → IsUtf8 folder → AllByRecursion (IsInFolder folder) (tables_in folder P)
tile_in folder P u = (
  three_in_folder folder 101 100 103 P.edg u (omega arith) (omega arith) (omega arith) refl (λ e. omega (arith, e)) (λ e. omega (arith, e)),
  (
    three_in_folder folder 102 97 99 P.fac u (omega arith) (omega arith) (omega arith) refl (λ e. omega (arith, e)) (λ e. omega (arith, e)),
    (
      three_in_folder folder 114 110 103 P.rng u (omega arith) (omega arith) (omega arith) refl (λ e. omega (arith, e)) (λ e. omega (arith, e)),
      (
        three_in_folder folder 99 110 100 P.cnd u (omega arith) (omega arith) (omega arith) refl (λ e. omega (arith, e)) (λ e. omega (arith, e)),
        by P.end,
      ),
    ),
  ),
)
  where
    by : (end : Option Grid) → AllByRecursion (IsInFolder folder) (end_in folder end)
    by None = tt
    by (Some g) =
        (three_in_folder folder 101 110 100 g u (omega arith) (omega arith) (omega arith) refl (λ e. omega (arith, e)) (λ e. omega (arith, e)), tt)

-- ---- those of all tiles

-- what is so of the tables of each folder
tables_all : (P : NamedTable → Type 0) (folder : List ℕ) (paths : List (List ℕ)) (tiles : List (Option TileTables)) → IsUtf8 folder
    → AllByRecursion IsInner paths → ((inside : List ℕ) (x : NamedTable) → IsInFolder inside x → P x) → AllByRecursion P (tables_of folder paths tiles)
tables_all P folder [] tiles u inner so = tt
tables_all P folder (path ∷ paths) [] u inner so = tt
tables_all P folder (path ∷ paths) (None ∷ tiles) u inner so = tables_all P folder paths tiles u inner.1 so
tables_all P folder (path ∷ paths) (Some T ∷ tiles) u inner so =
    let here = tables_in (within folder path) T.tables in
    all_both P here (tables_of folder paths tiles)
    (all_weaker (IsInFolder (within folder path)) P (so (within folder path)) here
    (tile_in (within folder path) T.tables (within_utf8 folder path u inner.0.utf8)))
    (tables_all P folder paths tiles u inner.1 so)

-- a table of a tile is apart from those of tiles with other paths
far_from_others : (folder path : List ℕ) (x : NamedTable) (paths : List (List ℕ)) (tiles : List (Option TileTables)) → IsUtf8 folder → IsInner path
    → IsInFolder (within folder path) x → AllByRecursion IsInner paths → AllByRecursion (OtherText path) paths
    → AllByRecursion (OtherStem x) (tables_of folder paths tiles)
far_from_others folder path x [] tiles u own i inner apart = tt
far_from_others folder path x (other ∷ paths) [] u own i inner apart = tt
far_from_others folder path x (other ∷ paths) (None ∷ tiles) u own i inner apart = far_from_others folder path x paths tiles u own i inner.1 apart.1
far_from_others folder path x (other ∷ paths) (Some T ∷ tiles) u own i inner apart =
    let here = tables_in (within folder other) T.tables in
    all_both (OtherStem x) here (tables_of folder paths tiles)
    (all_weaker (IsInFolder (within folder other)) (OtherStem x)
    (λ y k. letters_apart (within (within folder path) []) (within (within folder other) []) i.first i.second k.first k.second x y i.stem k.stem
    (λ e p q. apart.0 (one_folder folder path other own inner.0 e))) here
    (tile_in (within folder other) T.tables (within_utf8 folder other u inner.0.utf8)))
    (far_from_others folder path x paths tiles u own i inner.1 apart.1)

tiles_apart : (folder : List ℕ) (paths : List (List ℕ)) (tiles : List (Option TileTables)) → IsUtf8 folder → AllByRecursion IsInner paths
    → Apart OtherText paths → Apart OtherStem (tables_of folder paths tiles)
tiles_apart folder [] tiles u inner apart = tt
tiles_apart folder (path ∷ paths) [] u inner apart = tt
tiles_apart folder (path ∷ paths) (None ∷ tiles) u inner apart = tiles_apart folder paths tiles u inner.1 apart.1
tiles_apart folder (path ∷ paths) (Some T ∷ tiles) u inner apart =
    let here = tables_in (within folder path) T.tables in
    let text = within_utf8 folder path u inner.0.utf8 in
    apart_both OtherStem here (tables_of folder paths tiles) (tile_apart (within folder path) T.tables text)
    (tiles_apart folder paths tiles u inner.1 apart.1)
    (all_weaker (IsInFolder (within folder path)) (λ x. AllByRecursion (OtherStem x) (tables_of folder paths tiles))
    (λ x i. far_from_others folder path x paths tiles u inner.0 i inner.1 apart.0) here (tile_in (within folder path) T.tables text))

-- ---- the table of tiles

-- it has other letters, and its last isn't that of its index
record IsApart (lib : List ℕ) (table : NamedTable) : Type 0 where
  stem : without_last table.name ≡ within (within lib (codes "tileref")) (codes "tileref.") ++ 97 ∷ 102 ∷ []
  letter : HasLetter table

tileref_is_apart : (lib : List ℕ) (tileref : Grid) → IsUtf8 lib → IsApart lib (named_table (tileref_name lib) tileref)
unfolding lib.Utf8.encode
tileref_is_apart lib tileref u =
    let folder = within lib (codes "tileref") in
    let name_text : IsUtf8 (codes "tileref") = (codes "tileref", (refl, refl)) in
    let rest_text : IsUtf8 (codes "tileref.af") = (codes "tileref.af", (refl, refl)) in
    let text : IsUtf8 (within folder (codes "tileref.af")) =
    within_utf8 folder (codes "tileref.af") (within_utf8 lib (codes "tileref") u name_text) rest_text in
    let behind : within folder (codes "tileref.aft") ≡ within folder (codes "tileref.af") ++ 116 ∷ [] = last_behind folder (codes "tileref.af") 116 in
    let cut : without_last (tileref_name lib) ≡ within folder (codes "tileref.af") =
    ap without_last (behind ∙ ap (λ (x : List ℕ). within folder (codes "tileref.af") ++ x) (sym (encode_ascii 116 (omega arith))))
    ∙ last_dropped (within folder (codes "tileref.af")) 116 text refl in
    let letters : within folder (codes "tileref.af") ≡ within folder (codes "tileref.") ++ 97 ∷ 102 ∷ [] =
    within_is folder (codes "tileref.af") ∙ sym (append_assoc (within folder []) (codes "tileref.") (97 ∷ 102 ∷ []))
    ∙ ap (λ (x : List ℕ). x ++ 97 ∷ 102 ∷ []) (sym (within_is folder (codes "tileref."))) in
    record {
      stem = cut ∙ letters;
      letter = record { letter = 116; is = behind ∙ ap (λ (x : List ℕ). x ++ 116 ∷ []) (sym cut); other = λ e. omega (arith, e) };
    }

-- ---- the coverage

-- the files of a table of tiles, and those of the tiles that it names
pub coverage_apart : (lib folder : List ℕ) (tileref : Grid) (tiles : List (Option TileTables)) (before behind : List File) (at : ℕ) → IsUtf8 lib
    → IsUtf8 folder → IsTileref tileref → AreFilesOf (tileref_name lib) tileref before → AreTilesFiles folder at (path_texts tileref) tiles behind
    → Apart OtherText (names (before ++ behind))
coverage_apart lib folder tileref tiles before behind at u v right table rest =
    let own = own_paths tileref right in
    let paths = path_texts tileref in
    let first = named_table (tileref_name lib) tileref in
    let others = tables_of folder paths tiles in
    let is = tileref_is_apart lib tileref u in
    let same : names (before ++ behind) ≡ names (files_made (first ∷ others)) =
    both_names before behind (files_of_table first) (files_made others) (table_names (tileref_name lib) tileref before table)
    (tiles_names folder at paths tiles behind rest) in
    let apart : Apart OtherFile (files_made (first ∷ others)) =
    made_apart (first ∷ others) (is.letter, tables_all HasLetter folder paths tiles v own.inner (λ inside x i. i.letter)) (
      tables_all (OtherStem first) folder paths tiles v own.inner
          (λ inside x i. letters_apart (within (within lib (codes "tileref")) (codes "tileref.")) (within inside []) 97 102 i.first i.second first x
          is.stem i.stem (λ s p q. i.inner (sym p))),
      tiles_apart folder paths tiles v own.inner (texts_apart tileref right),
    ) in
    subst (Apart OtherText) (sym same) (apart_made OtherFile OtherText (λ (file : File). file.name) (λ a b ne. ne) (files_made (first ∷ others)) apart)
