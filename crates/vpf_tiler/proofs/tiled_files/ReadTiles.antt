-- The files of tiles within a folder, as they are read there.
use Rattle.std.proofs.Common.{[], ◌≡◌, ◌≢◌, ◌<◌, ℕ, ◌+◌, List, ◌∷◌, ◌++◌, length, map, Option, Some, None, refl, sym, ap, subst, ◌∙◌, arith, append-nil}
use Rattle.std.specs.Prelude.{IsUtf8, codes, encode_utf8}
use Rattle.std.specs.Char.{IsScalar}
use Rattle.std.specs.List.{AllByRecursion}
use Rattle.std.proofs.lemmas.Str.{encode_ascii}
use Rattle.vpf_source.specs.declared.file.File.{File}
use Rattle.vpf_source.specs.Names.Indexes.{index_name}
use Rattle.vpf_table.specs.Grid.{Grid}
use Rattle.vpf_prims.specs.Reading.{PrimitiveTables}
use Rattle.vpf_prims.specs.Tables.{TileTables}
use Rattle.vpf_write.specs.Made.Files.{table_files}
use Rattle.vpf_library_files.specs.Loading.Holding.{AreFilesOf, AreFilesOfOption, AreTileFiles, AreTilesFiles}
use Rattle.vpf_library_files.specs.Loading.Loading.{within}
use Rattle.vpf_library_files.specs.TableFiles.Adding.{NamedTable, files_of_table, table_within}
use Rattle.vpf_tiler.specs.Inner.TiledFiles.StemLaws.{index_within, within_utf8, within_within}
use Rattle.vpf_tiler.specs.Inner.TiledFiles.PathLaws.{IsInner}
use Rattle.vpf_tiler.proofs.tiled_files.ReadTables.{first_read, read_both, read_files, table_read}
use Rattle.vpf_tiler.specs.Inner.TiledFiles.TableLaws.{TableCanBeRead as CanBeRead, all_behind, all_front, moved}
use Rattle.vpf_tiler.specs.Inner.TiledFiles.WrittenLaws.{OpensWritten as Opens}
use Rattle.vpf_tiler.specs.Inner.TiledFiles.TileLaws.{tile_place, IsTilePlace as IsPlace, tables_held as tables_in, end_in, last_behind, EachOpens, ascii}

-- those of a tile that may be empty
abbrev pub tables_at : (folder : List ℕ) → Option PrimitiveTables → List NamedTable
tables_at folder None = []
tables_at folder (Some P) = tables_in folder P

-- those of tiles with these paths
abbrev pub all_tables : (cov : List ℕ) → List (List ℕ) → List (Option PrimitiveTables) → List NamedTable
all_tables cov [] tiles = []
all_tables cov (path ∷ paths) [] = []
all_tables cov (path ∷ paths) (tile ∷ tiles) = tables_at (within cov path) tile ++ all_tables cov paths tiles

-- these tables as they are read, the first files of each where they stand among all
abbrev pub tiles_at : (out cov : List ℕ) → (at : ℕ) → List (List ℕ) → List (Option PrimitiveTables) → List (Option TileTables)
tiles_at out cov at [] tiles = []
tiles_at out cov at (path ∷ paths) [] = []
tiles_at out cov at (path ∷ paths) (None ∷ tiles) = None ∷ tiles_at out cov at paths tiles
tiles_at out cov at (path ∷ paths) (Some P ∷ tiles) =
    Some (record { first = at; tables = P }) ∷ tiles_at out cov (at + length (read_files out (tables_in (within cov path) P))) paths tiles

-- ---- one tile

-- the name of a table in a folder is asked for within the folder around it
pub asked : (out folder rest : List ℕ) (c : ℕ) → folder ≢ [] → within out (within folder (rest ++ c ∷ [])) ≡ within (within out folder) (rest ++ c ∷ [])
asked out folder rest c some = within_within out folder (rest ++ c ∷ []) some

-- and that of its index with it
index_asked : (out folder rest : List ℕ) (c : ℕ) → IsUtf8 out → IsUtf8 folder → IsUtf8 rest → folder ≢ [] → IsScalar c → encode_utf8 c ≡ c ∷ []
    → within out (index_name (within folder (rest ++ c ∷ []))) ≡ index_name (within (within out folder) (rest ++ c ∷ []))
index_asked out folder rest c u v w some s e =
    let behind = last_behind folder rest c in
    ap (λ (x : List ℕ). within out (index_name x)) behind ∙ index_within out (within folder rest) c u (within_utf8 folder rest v w) s e
    ∙ ap (λ (x : List ℕ). index_name (within out x)) (sym behind) ∙ ap index_name (asked out folder rest c some)

-- a table there
pub there_read : (out folder place rest : List ℕ) (c : ℕ) (g : Grid) → IsPlace out folder place → IsUtf8 rest → IsScalar c → encode_utf8 c ≡ c ∷ [] → Opens g
    → AreFilesOf (within place (rest ++ c ∷ [])) g (map (moved out) (table_files (within folder (rest ++ c ∷ [])) g))
there_read out folder place rest c g p w s e opens =
    table_read out (within folder (rest ++ c ∷ [])) (within place (rest ++ c ∷ [])) g opens
    (asked out folder rest c p.some ∙ ap (λ (x : List ℕ). within x (rest ++ c ∷ [])) p.is)
    (index_asked out folder rest c p.out_utf8 p.utf8 w p.some s e ∙ ap (λ (x : List ℕ). index_name (within x (rest ++ c ∷ []))) p.is)

-- a table whose name has three letters
three_read : (out folder place : List ℕ) (a b c : ℕ) (g : Grid) → IsPlace out folder place → a < 128 → b < 128 → c < 128 → IsScalar c → Opens g
    → AreFilesOf (within place (a ∷ b ∷ c ∷ [])) g (map (moved out) (table_files (within folder (a ∷ b ∷ c ∷ [])) g))
three_read out folder place a b c g p h k l s opens = there_read out folder place (a ∷ b ∷ []) c g p (ascii a b h k) s (encode_ascii c l) opens

end_read : (out folder place : List ℕ) (end : Option Grid) → IsPlace out folder place → EachOpens → AllByRecursion CanBeRead (end_in folder end)
    → AreFilesOfOption (within place (codes "end")) end (read_files out (end_in folder end))
end_read out folder place None p opens h = refl
end_read out folder place (Some g) p opens h =
    subst (λ (x : List File). AreFilesOf (within place (codes "end")) g x)
    (ap (map (moved out)) (sym (append-nil (table_files (within folder (codes "end")) g))))
    (three_read out folder place 101 110 100 g p (omega arith) (omega arith) (omega arith) refl (opens g h.0.0 h.0.1))

-- the files of five tables stand one behind another
five_read : (out : List ℕ) (edg fac rng cnd : NamedTable) (end : List NamedTable)
    → read_files out (edg ∷ fac ∷ rng ∷ cnd ∷ end)
    ≡ map (moved out) (files_of_table edg) ++ (map (moved out) (files_of_table fac) ++ (map (moved out) (files_of_table rng)
    ++ (map (moved out) (files_of_table cnd) ++ read_files out end)))
five_read out edg fac rng cnd end =
    first_read out edg (fac ∷ rng ∷ cnd ∷ end)
    ∙ ap (λ (x : List File). map (moved out) (files_of_table edg) ++ x) (first_read out fac (rng ∷ cnd ∷ end)
    ∙ ap (λ (x : List File). map (moved out) (files_of_table fac) ++ x) (first_read out rng (cnd ∷ end)
    ∙ ap (λ (x : List File). map (moved out) (files_of_table rng) ++ x) (first_read out cnd end)))

-- the tables of a tile are read from its folder
tile_read : (out folder place : List ℕ) (P : PrimitiveTables) → IsPlace out folder place → EachOpens → AllByRecursion CanBeRead (tables_in folder P)
    → AreTileFiles place P (read_files out (tables_in folder P))
tile_read out folder place P p opens h =
    record {
      edg = map (moved out) (table_files (within folder (codes "edg")) P.edg);
      fac = map (moved out) (table_files (within folder (codes "fac")) P.fac);
      rng = map (moved out) (table_files (within folder (codes "rng")) P.rng);
      cnd = map (moved out) (table_files (within folder (codes "cnd")) P.cnd);
      end = read_files out (end_in folder P.end);
      are = five_read out (table_within folder (codes "edg") P.edg) (table_within folder (codes "fac") P.fac) (table_within folder (codes "rng") P.rng)
          (table_within folder (codes "cnd") P.cnd) (end_in folder P.end);
      edg_is = three_read out folder place 101 100 103 P.edg p (omega arith) (omega arith) (omega arith) refl (opens P.edg h.0.0 h.0.1);
      fac_is = three_read out folder place 102 97 99 P.fac p (omega arith) (omega arith) (omega arith) refl (opens P.fac h.1.0.0 h.1.0.1);
      rng_is = three_read out folder place 114 110 103 P.rng p (omega arith) (omega arith) (omega arith) refl (opens P.rng h.1.1.0.0 h.1.1.0.1);
      cnd_is = three_read out folder place 99 110 100 P.cnd p (omega arith) (omega arith) (omega arith) refl (opens P.cnd h.1.1.1.0.0 h.1.1.1.0.1);
      end_is = end_read out folder place P.end p opens h.1.1.1.1;
    }

-- ---- all tiles

-- the tables of all tiles are read, tile by tile
pub tiles_read : (out cov : List ℕ) → IsUtf8 out → IsUtf8 cov → cov ≢ [] → EachOpens → (at : ℕ) (paths : List (List ℕ)) (tiles : List (Option PrimitiveTables))
    → length paths ≡ length tiles → AllByRecursion IsInner paths → AllByRecursion CanBeRead (all_tables cov paths tiles)
    → AreTilesFiles (within out cov) at paths (tiles_at out cov at paths tiles) (read_files out (all_tables cov paths tiles))
tiles_read out cov u v some opens at [] [] many inner h = refl
tiles_read out cov u v some opens at [] (tile ∷ tiles) many inner h = absurd (omega (arith, many))
tiles_read out cov u v some opens at (path ∷ paths) [] many inner h = absurd (omega (arith, many))
tiles_read out cov u v some opens at (path ∷ paths) (None ∷ tiles) many inner h =
    tiles_read out cov u v some opens at paths tiles (omega (arith, many)) inner.1 h
tiles_read out cov u v some opens at (path ∷ paths) (Some P ∷ tiles) many inner h =
    let here = tables_in (within cov path) P in
    let rest = all_tables cov paths tiles in (
      read_files out here,
      read_files out rest,
      read_both out here rest,
      refl,
      tile_read out (within cov path) (within (within out cov) path) P (tile_place out cov path u v some inner.0) opens (all_front CanBeRead here rest h),
      tiles_read out cov u v some opens (at + length (read_files out here)) paths tiles (omega (arith, many)) inner.1 (all_behind CanBeRead here rest h),
    )
