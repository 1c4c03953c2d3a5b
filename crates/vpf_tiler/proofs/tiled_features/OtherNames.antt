-- The names of the files of a tiled library: but for the table of tiles, none stands in the coverage's own folder.
use Rattle.std.proofs.Common.{[], ◌≡◌, ◌≢◌, ℕ, List, ◌∷◌, ◌++◌, length, Option, None, Some, sym, ap, ◌∙◌, append_assoc}
use Rattle.std.specs.Prelude.{codes}
use Rattle.std.specs.List.{AllByRecursion}
use Rattle.vpf_source.specs.declared.file.File.{File}
use Rattle.vpf_source.specs.Names.Indexes.{index_name, without_last}
use Rattle.vpf_table.specs.Canonical.{canonical_index}
use Rattle.vpf_table.specs.Grid.{Grid}
use Rattle.vpf_write.specs.Made.Files.{index_files}
use Rattle.vpf_library_files.specs.Loading.Loading.{within}
use Rattle.vpf_library_files.specs.TableFiles.Adding.{NamedTable, files_made, files_of_table}
use Rattle.vpf_library_files.specs.Tileref.Stops.{path_texts}
use Rattle.vpf_base.proofs.Lists.{all_joined as all_both}
use Rattle.vpf_feature_writing.specs.FeatureReading.Laws.{IsOwnFile}
use Rattle.vpf_feature_writing.specs.Inner.FeatureReading.EndingLaws.{EndsIn, ends_within, index_ends, other_ends}
use Rattle.vpf_tiler.specs.TileFiles.Tables.{all_tile_tables, library_tables, tileref_table}
use Rattle.vpf_tiler.specs.Inner.TiledFiles.AbsentLaws.{IsOtherName as IsOther}
use Rattle.vpf_tiler.specs.Inner.TiledFiles.NameLaws.{IsInFolder, IsOfStem, files_of_stem}
use Rattle.vpf_tiler.specs.Inner.TiledFiles.PairLaws.{all_weaker}
use Rattle.vpf_tiler.specs.Inner.TiledFiles.PathLaws.{IsInner}
use Rattle.vpf_tiler.specs.Inner.TiledFiles.StemLaws.{within_is, within_within}
use Rattle.vpf_tiler.specs.Inner.TiledFeatures.Laws.{OwnNamesAreFree}
use Rattle.vpf_tiler.proofs.tiled_features.OwnNames.{own_in, own_is}
use Rattle.vpf_tiler.proofs.tiled_features.TilesHeld.{no_tile}
use Rattle.vpf_tiler.proofs.tiled_files.LibraryNames.{IsTileTable, tables_of_tiles}

-- ---- the files of tiles

-- a file in the folder of a tile has three letters there
file_of_tile : (cov name path : List ℕ) (table : NamedTable) (file : File) → IsInner path → (i : IsInFolder (within cov path) table) → IsOwnFile name
    → IsOfStem (without_last table.name) file → IsOther (within cov name) file
file_of_tile cov name path table file inner i own s e =
    let folder = within cov path in
    let tail = i.first ∷ i.second ∷ s.letter ∷ [] in
    let is : file.name ≡ within folder tail =
    s.is ∙ ap (λ (x : List ℕ). x ++ s.letter ∷ []) i.stem ∙ append_assoc (within folder []) (i.first ∷ i.second ∷ []) (s.letter ∷ []) ∙ sym (within_is folder tail) in
    no_tile cov path tail (within cov name) inner (own_in cov name (own_is name own)) (sym e ∙ is)

files_of_tile : (cov name : List ℕ) (table : NamedTable) → IsOwnFile name → IsTileTable cov table → AllByRecursion (IsOther (within cov name)) (files_of_table table)
files_of_tile cov name table own t =
    all_weaker (IsOfStem (without_last table.name)) (IsOther (within cov name)) (λ file s. file_of_tile cov name t.path table file t.inner t.in_folder own s)
    (files_of_table table) (files_of_stem table t.in_folder.letter)

files_of_tiles : (cov name : List ℕ) (tables : List NamedTable) → IsOwnFile name → AllByRecursion (IsTileTable cov) tables
    → AllByRecursion (IsOther (within cov name)) (files_made tables)
files_of_tiles cov name [] own all = tt
files_of_tiles cov name (table ∷ tables) own all =
    all_both (IsOther (within cov name)) (files_of_table table) (files_made tables) (files_of_tile cov name table own all.0)
    (files_of_tiles cov name tables own all.1)

-- ---- the table of tiles

-- its index has another ending than a name that doesn't end as that of an index
tileref_files : (cov name : List ℕ) (letter : ℕ) (tileref : Grid) → EndsIn letter name → (120 ≡ letter → ⊥) → within cov name ≢ codes "tileref/tileref.aft"
    → AllByRecursion (IsOther (within cov name)) (files_of_table (tileref_table tileref))
tileref_files cov name letter tileref ends no_index other = (λ e. other (sym e), by (canonical_index (tileref_table tileref).grid))
  where
    by : (index : Option (List ℕ)) → AllByRecursion (IsOther (within cov name)) (index_files (tileref_table tileref).name index)
    by None = tt
    by (Some bytes) = (
      other_ends 120 letter (index_name (tileref_table tileref).name) (within cov name) (index_ends (tileref_table tileref).name)
          (ends_within cov name letter ends) no_index,
      tt,
    )

-- ---- the library

pub own_names_are_free : OwnNamesAreFree
own_names_are_free held folder cov T c plan tileref features name letter text some right own ends no_index other exactly others =
    let wanted = within cov name in
    let tables = all_tile_tables cov (path_texts tileref) T c plan (length tileref.rows) in
    let tiles : AllByRecursion (IsOther wanted) (files_made (library_tables cov T c plan tileref)) =
    all_both (IsOther wanted) (files_of_table (tileref_table tileref)) (files_made tables) (tileref_files cov name letter tileref ends no_index other)
    (files_of_tiles cov name tables own (tables_of_tiles cov T c plan tileref text right)) in
    ap held (sym (within_within folder cov name some))
    ∙ exactly.others wanted (all_both (IsOther wanted) (files_made (library_tables cov T c plan tileref)) features tiles others)
