-- What a folder held under the names of features that were read there, and what it lacked.
use Rattle.std.proofs.Common.{[], ◌≡◌, ℕ, ◌≤◌, List, ◌∷◌, length, Option, Some, None, sym, subst, ◌∙◌, flat_map}
use Rattle.std.specs.Prelude.{IfSome}
use Rattle.std.specs.Cmp.Lexicographic.{bytes_decides}
use Rattle.std.specs.List.{AllByRecursion}
use Rattle.std.specs.Str.{bytes_eq}
use Rattle.std.proofs.lemmas.Option.{same_Some}
use Rattle.vpf_base.proofs.Booleans.{clash}
use Rattle.vpf_base.proofs.Options.{none_past}
use Rattle.vpf_base.specs.Limits.{most_bytes}
use Rattle.vpf_base.specs.declared.orders.Order.{Order}
use Rattle.vpf_source.specs.Files.{Files}
use Rattle.vpf_source.specs.declared.file.File.{File}
use Rattle.vpf_head.specs.Head.{Col}
use Rattle.vpf_theme.specs.Spelling.{IsThematicIndex}
use Rattle.vpf_library_files.specs.Inner.Loading.FileLaws.{both_held}
use Rattle.vpf_library_files.specs.Loading.Holding.{AreHeld}
use Rattle.vpf_library_files.specs.Loading.Loading.{within}
use Rattle.vpf_library_files.specs.Loading.Loads.{maybe}
use Rattle.vpf_feature_files.specs.Holding.{AreFeatureFiles, AreItemsFiles, AreThemeFiles, AreThemesFiles, HoldsSchema, LacksNamed, LacksOfItems}
use Rattle.vpf_feature_files.specs.SchemaRows.Items.{own_file}
use Rattle.vpf_feature_files.specs.SchemaRows.Joins.{feature_items}
use Rattle.vpf_feature_files.specs.Schemas.{FeatureTable, Index, Schema, joins_of, table_in_file}
use Rattle.vpf_feature_writing.specs.Inner.FeatureReading.EndingLaws.{EndsIn, NamesFeatures, feature_ends, items_name}

-- ---- what was held

-- a file of the folder is the thematic index
pub record IsHeldTheme (held : Files) (folder : List ℕ) (index : Index) : Type 0 where
  pub order : Order
  pub bytes : List ℕ
  pub there : held (within folder index.file) ≡ Some bytes
  pub few : length bytes ≤ most_bytes
  pub spelled : IsThematicIndex order index.theme bytes

-- the same of one that may be absent
abbrev pub IsHeldOption : Files → (folder : List ℕ) → Option Index → Type 0
IsHeldOption held folder index = IfSome index (IsHeldTheme held folder)

-- the name of a feature table has its last letter, and its thematic indexes are held
pub record IsHeldTable (held : Files) (folder : List ℕ) (table : FeatureTable) : Type 0 where
  pub ends : EndsIn 116 table.name
  pub themes : AllByRecursion (IsHeldOption held folder) table.indexes

theme_held : (held : Files) (folder : List ℕ) (order : Order) (column : Col) (index : Option Index) (files : List File)
    → AreThemeFiles folder order column index files → AreHeld held files → IsHeldOption held folder index
theme_held held folder order column None files are there = tt
theme_held held folder order column (Some index) files are there =
    let own = subst (AreHeld held) are.are there in
    record { order = order; bytes = are.bytes; there = own.0; few = own.1; spelled = are.spelled }

themes_held : (held : Files) (folder : List ℕ) (order : Order) (columns : List Col) (indexes : List (Option Index)) (files : List File)
    → AreThemesFiles folder order columns indexes files → AreHeld held files → AllByRecursion (IsHeldOption held folder) indexes
themes_held held folder order [] [] files are there = tt
themes_held held folder order [] (index ∷ indexes) files are there = absurd are
themes_held held folder order (column ∷ columns) [] files are there = absurd are
themes_held held folder order (column ∷ columns) (index ∷ indexes) files are there =
    let both = both_held held are.0 are.1 (subst (AreHeld held) are.2 there) in
    (theme_held held folder order column index are.0 are.3 both.0, themes_held held folder order columns indexes are.1 are.4 both.1)

table_held : (held : Files) (folder item : List ℕ) (table : FeatureTable) (files : List File) → NamesFeatures item → AreFeatureFiles folder item table files
    → AreHeld held files → IsHeldTable held folder table
table_held held folder item table files names are there =
    let both = both_held held are.own are.themes (subst (AreHeld held) are.are there) in
    record {
      ends = feature_ends item table.name names are.named;
      themes = themes_held held folder table.grid.head.order table.grid.head.columns table.indexes are.themes are.themes_are both.1;
    }

tables_held : (held : Files) (folder : List ℕ) (items : List (List ℕ)) (found : List (Option FeatureTable)) (files : List File)
    → AllByRecursion NamesFeatures items → AreItemsFiles folder items found files → AreHeld held files
    → AllByRecursion (IsHeldTable held folder) (flat_map maybe found)
tables_held held folder [] [] files names are there = tt
tables_held held folder [] (table ∷ found) files names are there = absurd are
tables_held held folder (item ∷ items) [] files names are there = absurd are
tables_held held folder (item ∷ items) (None ∷ found) files names are there =
    let both = both_held held are.0 are.1 (subst (AreHeld held) are.2 there) in
    tables_held held folder items found are.1 names.1 are.4 both.1
tables_held held folder (item ∷ items) (Some table ∷ found) files names are there =
    let both = both_held held are.0 are.1 (subst (AreHeld held) are.2 there) in
    (table_held held folder item table are.0 names.0 are.3 both.0, tables_held held folder items found are.1 names.1 are.4 both.1)

-- ---- what was lacking

-- the folder lacks the file that an item names, unless it is that of one of these feature tables
abbrev pub IsLacking : Files → (folder : List ℕ) → List FeatureTable → List ℕ → Type 0
IsLacking held folder tables item = (file : List ℕ) → own_file item ≡ Some file → table_in_file tables file ≡ None → held (within folder file) ≡ None

-- where no feature table of some is in a file, none of others is
abbrev NoneOfOthers : (tables others : List FeatureTable) → Type 0
NoneOfOthers tables others = (file : List ℕ) → table_in_file tables file ≡ None → table_in_file others file ≡ None

-- a feature table is in its own file
own_in : (table : FeatureTable) (tables : List FeatureTable) (file : List ℕ) → table.name ≡ file → table_in_file (table ∷ tables) file ≡ None → ⊥
own_in table tables file same none =
    let other = (none_past (bytes_eq table.name file) table (table_in_file tables file) none).0 in
    clash (bytes_eq table.name file) ((bytes_decides table.name file).1 same) other

items_lack : (held : Files) (folder : List ℕ) (tables : List FeatureTable) (items : List (List ℕ)) (found : List (Option FeatureTable)) (files : List File)
    → AreItemsFiles folder items found files → LacksOfItems held folder items found → NoneOfOthers tables (flat_map maybe found)
    → AllByRecursion (IsLacking held folder tables) items
items_lack held folder tables [] found files are lacks others = tt
items_lack held folder tables (item ∷ items) [] files are lacks others = absurd are
items_lack held folder tables (item ∷ items) (None ∷ found) files are lacks others = (
  λ file named none. subst (LacksNamed held folder) named lacks.0,
  items_lack held folder tables items found are.1 are.4 lacks.1 others,
)
items_lack held folder tables (item ∷ items) (Some table ∷ found) files are lacks others =
    let rest = flat_map maybe found in (
      λ file named none. absurd (own_in table rest file (same_Some table.name file (sym are.3.named ∙ named)) (others file none)),
      items_lack held folder tables items found are.1 are.4 lacks.1
          (λ file none. (none_past (bytes_eq table.name file) table (table_in_file rest file) (others file none)).1),
    )

-- ---- the whole

-- what is known of the folder
pub record IsHeldSource (held : Files) (folder : List ℕ) (S : Schema) : Type 0 where
  pub tables : AllByRecursion (IsHeldTable held folder) S.tables
  pub lacks : AllByRecursion (IsLacking held folder S.tables) (feature_items (joins_of S.fcs))

pub source_held : (held : Files) (folder : List ℕ) (S : Schema) (before : ℕ) → HoldsSchema held folder S before → IsHeldSource held folder S
source_held held folder S before h =
    let items = feature_items (joins_of S.fcs) in
    let both = both_held held h.are.fcs h.are.features (subst (AreHeld held) h.are.are h.there) in
    let tables = tables_held held folder items h.found h.are.features (items_name (joins_of S.fcs)) h.are.features_are both.1 in
    record {
      tables = subst (AllByRecursion (IsHeldTable held folder)) (sym h.are.tables) tables;
      lacks = items_lack held folder S.tables items h.found h.are.features h.are.features_are h.items
          (λ file none. subst (λ (x : List FeatureTable). table_in_file x file ≡ None) h.are.tables none);
    }
