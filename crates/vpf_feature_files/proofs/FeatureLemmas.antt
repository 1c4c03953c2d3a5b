-- What reading feature tables comes to, item by item.
use Rattle.std.proofs.Common.{[], ◌≡◌, ◌∙◌, ℕ, ◌+◌, ◌<◌, ◌≤◌, List, ◌∷◌, ◌++◌, length, drop, get_or, map, Option, None, Some, sym, ap, subst}
use Rattle.std.proofs.lemmas.List.{append-nil, drop_all, drop_more}
use Rattle.vpf_source.specs.Files.{Files}
use Rattle.vpf_library_files.specs.declared.loading.loading.LoadStop.{LoadStop}
use Rattle.vpf_library_files.specs.Loading.Loading.{◌and_then◌}
use Rattle.vpf_library_files.specs.Loading.Loads.{Comes, ReadsStop, maybe}
use Rattle.vpf_feature_files.specs.SchemaRows.Items.{own_file}
use Rattle.vpf_feature_files.specs.Inner.SchemaRows.Listing.{item_text}
use Rattle.vpf_feature_files.specs.declared.schema_rows.items.ItemName.{ItemName}
use Rattle.vpf_feature_files.specs.declared.files.TableFiles.{TableFiles}
use Rattle.vpf_feature_files.specs.Inner.Held.{AreTablesFiles}
use Rattle.vpf_feature_files.specs.Inner.Loads.{AddsFeatures, AreTableFilesOption}
use Rattle.vpf_feature_files.specs.Reading.{read_feature_tables, read_named_table}
use Rattle.vpf_feature_files.specs.Schemas.{FeatureTable}
use Rattle.vpf_feature_files.proofs.Steps.{behind, behind_both, behind_none, ends}
use Rattle.vpf_library_files.specs.Inner.Loading.StepLaws.{gives}

-- the tables of the items before the rest were read
pub record TablesRead (told : Option Files) (folder : List ℕ) (items rest : List (List ℕ)) (n0 n : ℕ) (files : List TableFiles) : Type 0 where
  pub done : List FeatureTable
  pub are : AreTablesFiles folder done files
  pub remains : (held : Files) → told ≡ Some held → read_feature_tables held folder items n0 ≡ (read_feature_tables held folder rest n and_then behind done)

pub no_tables : (told : Option Files) (folder : List ℕ) (items : List (List ℕ)) (n : ℕ) → TablesRead told folder items items n n []
no_tables told folder items n = record { done = []; are = tt; remains = λ held t. behind_none (read_feature_tables held folder items n) }

more_files : (folder : List ℕ) (done : List FeatureTable) (files : List TableFiles) (table : FeatureTable) (more : TableFiles) → AreTablesFiles folder done files
    → AreTableFilesOption folder (Some table) (Some more) → AreTablesFiles folder (done ++ table ∷ []) (files ++ more ∷ [])
more_files folder [] [] table more h is = (is, tt)
more_files folder [] (f ∷ files) table more h is = absurd h
more_files folder (d ∷ done) [] table more h is = absurd h
more_files folder (d ∷ done) (f ∷ files) table more h is = (h.0, more_files folder done files table more h.1 is)

maybe_more : (folder : List ℕ) (done : List FeatureTable) (files : List TableFiles) (table : Option FeatureTable) (kept : Option TableFiles) → AreTablesFiles folder done files
    → AreTableFilesOption folder table kept → AreTablesFiles folder (done ++ maybe table) (files ++ maybe kept)
maybe_more folder done files None None h is = rw (append-nil done, append-nil files) h
maybe_more folder done files None (Some kept) h is = absurd is
maybe_more folder done files (Some table) None h is = absurd is
maybe_more folder done files (Some table) (Some kept) h is = more_files folder done files table kept h is

pub next_table : (told now : Option Files) (folder : List ℕ) (items rest : List (List ℕ)) (item : List ℕ) (n0 n m : ℕ) (old new : List TableFiles) → now ≡ told
    → TablesRead told folder items (item ∷ rest) n0 n old
    → Comes now (λ held. read_named_table held folder (own_file item) n) (λ table. AddsFeatures folder old new table) m
    → TablesRead told folder items rest n0 m new
next_table told now folder items rest item n0 n m old new same a b = record {
  done = a.done ++ maybe b.value;
  are = subst (λ (x : List TableFiles). AreTablesFiles folder (a.done ++ maybe b.value) x) (sym b.is.behind) (maybe_more folder a.done old b.value b.is.kept a.are b.is.are);
  remains = λ held t. a.remains held t ∙ rw (b.comes held (same ∙ t)) (behind_both a.done (maybe b.value) (read_feature_tables held folder rest m));
}

pub tables_stop : (told now : Option Files) (folder : List ℕ) (items rest : List (List ℕ)) (item : List ℕ) (n0 n m : ℕ) (files : List TableFiles) (stop : LoadStop)
    → now ≡ told → TablesRead told folder items (item ∷ rest) n0 n files
    → ((held : Files) → now ≡ Some held → ReadsStop stop m (read_named_table held folder (own_file item) n))
    → ((held : Files) → told ≡ Some held → ReadsStop stop m (read_feature_tables held folder items n0))
tables_stop told now folder items rest item n0 n m files stop same a h held t =
    rw (a.remains held t) (ends (behind a.done) (read_feature_tables held folder (item ∷ rest) n) m stop
    (ends (λ table k. read_feature_tables held folder rest k and_then behind (maybe table)) (read_named_table held folder (own_file item) n) m stop (h held (same ∙ t))))

pub tables_done : (told : Option Files) (folder : List ℕ) (items : List (List ℕ)) (n0 n : ℕ) (files : List TableFiles) → TablesRead told folder items [] n0 n files
    → Comes told (λ held. read_feature_tables held folder items n0) (λ tables. AreTablesFiles folder tables files) n
tables_done told folder items n0 n files a = record {
  value = a.done;
  is = a.are;
  comes = λ held t. a.remains held t ∙ ap (λ (x : List FeatureTable). gives x n) (append-nil a.done);
}

-- the items that are left begin with the one at hand
pub items_left : (told : Option Files) (folder : List ℕ) (items : List ItemName) (i n0 n : ℕ) (item d : ItemName) (files : List TableFiles) → i < length items
    → item ≡ get_or items i d → TablesRead told folder (map item_text items) (map item_text (drop i items)) n0 n files
    → TablesRead told folder (map item_text items) (item_text item ∷ map item_text (drop (i + 1) items)) n0 n files
items_left told folder items i n0 n item d files l is h =
    let e : drop i items ≡ item ∷ drop (i + 1) items = drop_more items i d l ∙ ap (λ (x : ItemName). x ∷ drop (i + 1) items) (sym is) in
    subst (λ (rest : List ItemName). TablesRead told folder (map item_text items) (map item_text rest) n0 n files) e h

pub none_left : (told : Option Files) (folder : List ℕ) (items : List ItemName) (i n0 n : ℕ) (files : List TableFiles) → length items ≤ i
    → TablesRead told folder (map item_text items) (map item_text (drop i items)) n0 n files → TablesRead told folder (map item_text items) [] n0 n files
none_left told folder items i n0 n files past h =
    subst (λ (rest : List ItemName). TablesRead told folder (map item_text items) (map item_text rest) n0 n files) (drop_all i items past) h
