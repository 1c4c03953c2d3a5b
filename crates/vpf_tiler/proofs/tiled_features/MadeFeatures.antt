-- The files that are made of features: each stands in the folder of its coverage, is no larger than a file may be, and within another folder it is the same.
use Rattle.std.proofs.Common.{[], ◌≡◌, ◌≢◌, ◌≤◌, ℕ, suc, List, ◌∷◌, ◌++◌, length, map, Option, Some, None, Result, Ok, Err, refl, sym, ap, subst, ◌∙◌}
use Rattle.std.specs.Prelude.{IfSome, IsUtf8, codes, slice_get}
use Rattle.std.specs.List.{AllByRecursion}
use Rattle.std.proofs.lemmas.List.{append-nil, map-append}
use Rattle.vpf_base.specs.Bytes.{IsBytes}
use Rattle.vpf_base.specs.Limits.{most_bytes}
use Rattle.vpf_source.specs.declared.file.File.{File}
use Rattle.vpf_base.specs.declared.orders.Order.{Order}
use Rattle.vpf_triplet.specs.declared.places.Part.{Part}
use Rattle.vpf_source.specs.Names.Indexes.{index_name}
use Rattle.vpf_head.specs.Head.{Col}
use Rattle.vpf_table.specs.declared.limit.Limit.{Limit as Passed}
use Rattle.vpf_table.specs.Canonical.{IsWritable, canonical_index, canonical_table, in_order}
use Rattle.vpf_table.specs.Grid.{Grid}
use Rattle.vpf_table.specs.Reading.{table_of}
use Rattle.vpf_theme.specs.Findings.{cells_of}
use Rattle.vpf_theme_build.specs.declared.errors.BuildError.{BuildError}
use Rattle.vpf_theme_build.specs.declared.errors.BuildError.TheVariants as builds
use Rattle.vpf_theme_build.specs.Building.{BuiltIndexesServe, built_by}
use Rattle.vpf_findings.specs.Firsts.{◌or◌}
use Rattle.vpf_write.specs.Writing.{first_limit}
use Rattle.vpf_write.specs.Made.Files.{index_files, table_files}
use Rattle.vpf_library_files.specs.Loading.Loading.{loaded_file, within}
use Rattle.vpf_library_files.specs.TableFiles.Adding.{NamedTable, named_limit, named_table, table_within, unless_limited}
use Rattle.vpf_feature_files.specs.Schemas.{FeatureTable, Index, Schema}
use Rattle.vpf_feature_writing.specs.Making.{Made, feature_table_made, feature_tables_made, features_made, index_made, index_made_by, indexes_made, made_then, schema_made, table_made}
use Rattle.vpf_feature_writing.specs.FeatureReading.Laws.{AreReadWithSchema, IsOwnFile, IsReadGrid, IsReadTable}
use Rattle.vpf_tiler.specs.Inner.TiledFiles.Names.{file_in}
use Rattle.vpf_tiler.specs.Inner.TiledFiles.StemLaws.{index_within, within_utf8, within_within}
use Rattle.vpf_tiler.specs.Inner.TiledFiles.TableLaws.{IsSmallFile, all_front, all_small}
use Rattle.vpf_base.proofs.Lists.{all_joined as all_both}
use Rattle.vpf_tiler.specs.Inner.TiledFiles.TileLaws.{EachOpens, last_behind}
use Rattle.vpf_tiler.proofs.tiled_features.OwnNames.{IsIn, IsOwnName, has_parts, index_in, own_in, own_is, schema_is}
use Rattle.vpf_feature_writing.specs.Inner.FeatureReading.HeldLaws.{ok_is, no_ok}

-- the laws of tables and indexes that are written
pub record MakingLaws : Type 0 where
  pub serve : BuiltIndexesServe
  pub opens : EachOpens
  pub writable : (bytes : List ℕ) (grid : Grid) (order : Order) → IsBytes bytes → table_of bytes ≡ Ok grid → IsWritable (in_order order grid)

-- a folder of a coverage within another folder
pub record IsPlaced (out cov : List ℕ) : Type 0 where
  pub out_text : IsUtf8 out
  pub cov_text : IsUtf8 cov
  pub some : cov ≢ []

-- a file that stands in a folder, and is no larger than one may be
pub record IsFeatureFile (folder : List ℕ) (file : File) : Type 0 where
  pub inside : IsIn folder file.name
  pub small : IsSmallFile file

-- where files are made in the folder, they are so, and within the other folder these are the files that are made
pub record AreMoved (out cov : List ℕ) (there : Made) (files : List File) : Type 0 where
  pub moved : there ≡ Ok (map (file_in out) files)
  pub inside : AllByRecursion (IsFeatureFile cov) files

abbrev Moves : (out cov : List ℕ) → (here there : Made) → Type 0
Moves out cov here there = (files : List File) → here ≡ Ok files → AreMoved out cov there files

-- ---- one after another

known : (out cov : List ℕ) (there : Made) (own files : List File) → own ≡ files → there ≡ Ok (map (file_in out) own) → AllByRecursion (IsFeatureFile cov) own
    → AreMoved out cov there files
known out cov there own files same moved inside =
    subst (λ (x : List File). AreMoved out cov there x) same (record { moved = moved; inside = inside })

none_moves : (out cov : List ℕ) → Moves out cov (Ok []) (Ok [])
none_moves out cov files e = known out cov (Ok []) [] files (ok_is [] files e) refl tt

both_there : (first later : Made) (front rest : List File) → first ≡ Ok front → later ≡ Ok rest → made_then first later ≡ Ok (front ++ rest)
both_there first later front rest e f = rw (e, f) refl

then_moves : (out cov : List ℕ) (first later there_first there_later : Made) → Moves out cov first there_first → Moves out cov later there_later
    → Moves out cov (made_then first later) (made_then there_first there_later)
then_moves out cov (Ok front) (Ok rest) there_first there_later move move_later files e =
    let a = move front refl in
    let b = move_later rest refl in
    known out cov (made_then there_first there_later) (front ++ rest) files (ok_is (front ++ rest) files e)
    (both_there there_first there_later (map (file_in out) front) (map (file_in out) rest) a.moved b.moved
    ∙ ap Ok (sym (map-append (file_in out) front rest)))
    (all_both (IsFeatureFile cov) front rest a.inside b.inside)
then_moves out cov (Ok front) (Err error) there_first there_later move move_later files e = absurd (no_ok files error e)
then_moves out cov (Err error) later there_first there_later move move_later files e = absurd (no_ok files error e)

-- ---- tables

-- its files are small where it was read and passes no limit
table_small : MakingLaws → (name : List ℕ) (grid : Grid) → IsReadGrid grid → first_limit grid ≡ None → AllByRecursion IsSmallFile (table_files name grid)
table_small laws name grid r fits =
    let writable = laws.writable r.bytes grid grid.head.order r.are r.read in
    all_front IsSmallFile (table_files name grid) [] (all_small laws.opens (named_table name grid ∷ []) ((writable, fits), tt))

index_inside : (folder name : List ℕ) (index : Option (List ℕ)) → IsUtf8 folder → IsOwnName name
    → AllByRecursion IsSmallFile (index_files (within folder name) index)
    → AllByRecursion (IsFeatureFile folder) (index_files (within folder name) index)
index_inside folder name None u own small = tt
index_inside folder name (Some bytes) u own small = (record { inside = index_in folder name u own; small = small.0 }, tt)

index_asked : (out cov name : List ℕ) → IsPlaced out cov → IsOwnName name
    → within out (index_name (within cov name)) ≡ index_name (within (within out cov) name)
index_asked out cov name p own =
    let parts = has_parts name own in
    let behind : within cov name ≡ within cov own.front ++ own.last ∷ [] = ap (within cov) own.is ∙ last_behind cov own.front own.last in
    ap (λ (x : List ℕ). within out (index_name x)) behind
    ∙ index_within out (within cov own.front) own.last p.out_text (within_utf8 cov own.front p.cov_text parts.utf8) parts.scalar parts.alone
    ∙ ap (λ (x : List ℕ). index_name (within out x)) (sym behind) ∙ ap index_name (within_within out cov name p.some)

index_moved : (out cov name : List ℕ) (index : Option (List ℕ)) → IsPlaced out cov → IsOwnName name
    → index_files (within (within out cov) name) index ≡ map (file_in out) (index_files (within cov name) index)
index_moved out cov name None p own = refl
index_moved out cov name (Some bytes) p own = ap (λ (x : List ℕ). loaded_file x bytes ∷ []) (sym (index_asked out cov name p own))

-- the files of a table in the folder
files_moved : (out cov name : List ℕ) (grid : Grid) → IsPlaced out cov → IsOwnName name
    → table_files (within (within out cov) name) grid ≡ map (file_in out) (table_files (within cov name) grid)
files_moved out cov name grid p own =
    ap (λ (x : List ℕ). loaded_file x (canonical_table grid) ∷ index_files (within (within out cov) name) (canonical_index grid))
    (sym (within_within out cov name p.some))
    ∙ ap (λ (x : List File). loaded_file (within out (within cov name)) (canonical_table grid) ∷ x)
    (index_moved out cov name (canonical_index grid) p own)

files_inside : MakingLaws → (cov name : List ℕ) (grid : Grid) → IsUtf8 cov → IsOwnName name → IsReadGrid grid → first_limit grid ≡ None
    → AllByRecursion (IsFeatureFile cov) (table_files (within cov name) grid)
files_inside laws cov name grid u own r fits =
    let small = table_small laws (within cov name) grid r fits in
    (record { inside = own_in cov name own; small = small.0 }, index_inside cov name (canonical_index grid) u own small.1)

table_by : (table : NamedTable) (stop : Option (Part × Passed)) (files : List File)
    → unless_limited (table ∷ []) (named_limit table.name stop or None) ≡ Ok files → (stop ≡ None) × (table_files table.name table.grid ≡ files)
table_by table None files e =
    (refl, sym (append-nil (table_files table.name table.grid)) ∙ ok_is (table_files table.name table.grid ++ []) files e)
table_by table (Some limit) files e = absurd (cc e)

table_there : (table : NamedTable) (stop : Option (Part × Passed)) → stop ≡ None
    → unless_limited (table ∷ []) (named_limit table.name stop or None) ≡ Ok (table_files table.name table.grid)
table_there table stop e = rw e (ap Ok (append-nil (table_files table.name table.grid)))

table_moves : MakingLaws → (out cov name : List ℕ) (grid : Grid) → IsPlaced out cov → IsOwnName name → IsReadGrid grid
    → Moves out cov (table_made cov name grid) (table_made (within out cov) name grid)
table_moves laws out cov name grid p own r files e =
    let by = table_by (table_within cov name grid) (first_limit grid) files e in
    known out cov (table_made (within out cov) name grid) (table_files (within cov name) grid) files by.1
    (table_there (table_within (within out cov) name grid) (first_limit grid) by.0 ∙ ap Ok (files_moved out cov name grid p own))
    (files_inside laws cov name grid p.cov_text own r by.0)

-- ---- thematic indexes

-- bytes that are built are no more than a file has
abbrev AreSmall : Result (List ℕ) BuildError → Type 0
AreSmall built = (bytes : List ℕ) → built ≡ Ok bytes → length bytes ≤ most_bytes

built_moves : (out cov name : List ℕ) (built : Result (List ℕ) BuildError) → IsPlaced out cov → IsOwnName name → AreSmall built
    → Moves out cov (index_made_by (within cov name) built) (index_made_by (within (within out cov) name) built)
built_moves out cov name (Ok bytes) p own small files e =
    known out cov (Ok (loaded_file (within (within out cov) name) bytes ∷ [])) (loaded_file (within cov name) bytes ∷ []) files
    (ok_is (loaded_file (within cov name) bytes ∷ []) files e)
    (ap (λ (x : List ℕ). Ok (loaded_file x bytes ∷ [])) (sym (within_within out cov name p.some)))
    (record { inside = own_in cov name own; small = small bytes refl }, tt)
built_moves out cov name (Err (builds.Limit size)) p own small files e = absurd (cc e)
built_moves out cov name (Err builds.Kind) p own small files e = none_moves out cov files e
built_moves out cov name (Err builds.NoMemory) p own small files e = none_moves out cov files e

-- the index of a column of a table that was read
index_small : BuiltIndexesServe → (table : FeatureTable) (c : ℕ) (column : Col) (index : Index) → IsReadTable table
    → slice_get table.grid.head.columns c ≡ Some column
    → AreSmall (built_by table.grid.head.order table.name index.theme.form column (cells_of table.grid c) column.count)
index_small serve table c column index r at bytes e =
    (serve r.grid.bytes table.grid c column index.theme.form table.name bytes r.grid.are r.grid.read at e).1

index_moves : BuiltIndexesServe → (out cov : List ℕ) (table : FeatureTable) (c : ℕ) (column : Option Col) (index : Option Index) → IsPlaced out cov
    → IsReadTable table
    → slice_get table.grid.head.columns c ≡ column → IfSome index (λ (i : Index). IsOwnFile i.file)
    → Moves out cov (index_made cov table c column index) (index_made (within out cov) table c column index)
index_moves serve out cov table c column None p r at own = none_moves out cov
index_moves serve out cov table c None (Some index) p r at own = none_moves out cov
index_moves serve out cov table c (Some column) (Some index) p r at own =
    built_moves out cov index.file (built_by table.grid.head.order table.name index.theme.form column (cells_of table.grid c) column.count) p
    (own_is index.file own) (index_small serve table c column index r at)

indexes_move : BuiltIndexesServe → (out cov : List ℕ) (table : FeatureTable) (c : ℕ) (indexes : List (Option Index)) → IsPlaced out cov → IsReadTable table
    → AllByRecursion (λ index. IfSome index (λ (i : Index). IsOwnFile i.file)) indexes
    → Moves out cov (indexes_made cov table c indexes) (indexes_made (within out cov) table c indexes)
indexes_move serve out cov table c [] p r own = none_moves out cov
indexes_move serve out cov table c (index ∷ indexes) p r own =
    let column = slice_get table.grid.head.columns c in
    then_moves out cov (index_made cov table c column index) (indexes_made cov table (suc c) indexes) (index_made (within out cov) table c column index)
    (indexes_made (within out cov) table (suc c) indexes) (index_moves serve out cov table c column index p r refl own.0)
    (indexes_move serve out cov table (suc c) indexes p r own.1)

-- ---- a schema

feature_table_moves : MakingLaws → (out cov : List ℕ) (table : FeatureTable) → IsPlaced out cov → IsReadTable table
    → Moves out cov (feature_table_made cov table) (feature_table_made (within out cov) table)
feature_table_moves laws out cov table p r =
    then_moves out cov (table_made cov table.name table.grid) (indexes_made cov table 0 table.indexes) (table_made (within out cov) table.name table.grid)
    (indexes_made (within out cov) table 0 table.indexes) (table_moves laws out cov table.name table.grid p (own_is table.name r.own) r.grid)
    (indexes_move laws.serve out cov table 0 table.indexes p r r.indexes)

feature_tables_move : MakingLaws → (out cov : List ℕ) (tables : List FeatureTable) → IsPlaced out cov → AllByRecursion IsReadTable tables
    → Moves out cov (feature_tables_made cov tables) (feature_tables_made (within out cov) tables)
feature_tables_move laws out cov [] p all = none_moves out cov
feature_tables_move laws out cov (table ∷ tables) p all =
    then_moves out cov (feature_table_made cov table) (feature_tables_made cov tables) (feature_table_made (within out cov) table)
    (feature_tables_made (within out cov) tables) (feature_table_moves laws out cov table p all.0) (feature_tables_move laws out cov tables p all.1)

schema_moves : MakingLaws → (out cov : List ℕ) (fcs : Option Grid) (tables : List FeatureTable) → IsPlaced out cov → IfSome fcs IsReadGrid
    → AllByRecursion IsReadTable tables → Moves out cov (schema_made cov fcs tables) (schema_made (within out cov) fcs tables)
schema_moves laws out cov None tables p r all = none_moves out cov
schema_moves laws out cov (Some fcs) tables p r all =
    then_moves out cov (table_made cov (codes "fcs") fcs) (feature_tables_made cov tables) (table_made (within out cov) (codes "fcs") fcs)
    (feature_tables_made (within out cov) tables) (table_moves laws out cov (codes "fcs") fcs p schema_is r) (feature_tables_move laws out cov tables p all)

-- the features of a schema that was read
pub features_move : MakingLaws → (out cov : List ℕ) (S : Schema) (files : List File) → IsPlaced out cov → AreReadWithSchema S
    → features_made cov S ≡ Ok files → AreMoved out cov (features_made (within out cov) S) files
features_move laws out cov S files p r e = schema_moves laws out cov S.fcs S.tables p r.schema r.tables files e
