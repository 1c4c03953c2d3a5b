-- What reading the schema table comes to, and with it all files of features.
use Rattle.std.proofs.Common.{Vec, Global, ◌≡◌, ◌∙◌, ℕ, List, [], Option, None, Some, Ok, Err, refl, sym, ap, subst}
use Rattle.std.specs.Prelude.{IfOk, Result}
use Rattle.vpf_source.specs.Files.{Files}
use Rattle.vpf_source.specs.declared.file.File.{File}
use Rattle.vpf_table.specs.Grid.{Grid}
use Rattle.vpf_table.specs.Reading.{table_of}
use Rattle.vpf_library_files.specs.declared.loading.loading.LoadStop.{LoadStop}
use Rattle.vpf_library_files.specs.Loading.Loading.{Read, ◌and_then◌, graded, read_optional}
use Rattle.vpf_library_files.specs.Loading.Loads.{Comes, LoadsAs, ReadsAs, ReadsStop, ReadsValue}
use Rattle.vpf_library_files.specs.Inner.Loading.StepLaws.{gives}
use Rattle.vpf_feature_files.specs.SchemaRows.Joins.{feature_items, joins_in}
use Rattle.vpf_feature_files.specs.declared.files.FeatureFiles.{FeatureFiles}
use Rattle.vpf_feature_files.specs.declared.files.TableFiles.{TableFiles}
use Rattle.vpf_feature_files.specs.Inner.Held.{AreOfSchema, AreSchemaFiles, AreTablesFiles, IsSchemaFileOption}
use Rattle.vpf_feature_files.specs.Inner.Loads.{IsLooked, IsSchemaIn}
use Rattle.vpf_feature_files.specs.Reading.{looked_at, read_feature_tables, read_schema, read_schema_in, read_with_tables, schema_name}
use Rattle.vpf_feature_files.specs.Schemas.{FeatureTable, Schema}
use Rattle.vpf_feature_files.proofs.Steps.{ends}
use Rattle.vpf_feature_files.proofs.TableLemmas.{FindsBytes, bytes_found}

-- ---- the schema table in some bytes

pub schema_stops : (held : Files) (folder name bytes : List ℕ) (n : ℕ) (stop : LoadStop) → ReadsStop stop n (graded name (looked_at name) (table_of bytes) n)
    → ReadsStop stop n (read_schema_in held folder name bytes n)
schema_stops held folder name bytes n stop h = ends (read_with_tables held folder) (graded name (looked_at name) (table_of bytes) n) n stop h

pub look_stops : (held : Files) (folder name bytes : List ℕ) (grid : Grid) (n : ℕ) (stop : LoadStop) → table_of bytes ≡ Ok grid → ReadsStop stop n (looked_at name grid n)
    → ReadsStop stop n (read_schema_in held folder name bytes n)
look_stops held folder name bytes grid n stop read h = schema_stops held folder name bytes n stop (rw read h)

looked_so : {V : Type 0} (name bytes : List ℕ) (grid : Grid) (n : ℕ) (v : V) → table_of bytes ≡ Ok grid → ReadsValue (λ (x : V) fcs. IsLooked grid fcs) v n (looked_at name grid n)
    → graded name (looked_at name) (table_of bytes) n ≡ gives (Some grid) n
looked_so name bytes grid n v read r = rw read (r.comes ∙ ap (λ (x : Option Grid). gives x n) r.is.is)

-- what is read behind it
abbrev with_tables : Grid → List FeatureTable → ℕ → Read Schema
with_tables grid tables n = (Ok (record { fcs = Some grid; tables = tables }), n)

looked_then : {V : Type 0} (held : Files) (folder name bytes : List ℕ) (grid : Grid) (n : ℕ) (v : V) → table_of bytes ≡ Ok grid
    → ReadsValue (λ (x : V) fcs. IsLooked grid fcs) v n (looked_at name grid n)
    → read_schema_in held folder name bytes n ≡ (read_feature_tables held folder (feature_items (joins_in grid)) n and_then with_tables grid)
looked_then held folder name bytes grid n v read r = rw (looked_so name bytes grid n v read r) refl

pub tables_stop_it : {V : Type 0} (told : Option Files) (folder name bytes : List ℕ) (grid table : Grid) (n k : ℕ) (v : V) (stop : LoadStop) → table_of bytes ≡ Ok grid → table ≡ grid
    → ReadsValue (λ (x : V) fcs. IsLooked grid fcs) v n (looked_at name grid n)
    → ((held : Files) → told ≡ Some held → ReadsStop stop k (read_feature_tables held folder (feature_items (joins_in table)) n))
    → (held : Files) → told ≡ Some held → ReadsStop stop k (read_schema_in held folder name bytes n)
tables_stop_it told folder name bytes grid table n k v stop read same r stops held e =
    rw (looked_then held folder name bytes grid n v read r)
    (ends (with_tables grid) (read_feature_tables held folder (feature_items (joins_in grid)) n) k stop
    (subst (λ (x : Grid). ReadsStop stop k (read_feature_tables held folder (feature_items (joins_in x)) n)) same (stops held e)))

pub schema_found : {V : Type 0} (told : Option Files) (folder name bytes : List ℕ) (grid table : Grid) (tables : List TableFiles) (n k : ℕ) (v : V) → table_of bytes ≡ Ok grid → table ≡ grid
    → ReadsValue (λ (x : V) fcs. IsLooked grid fcs) v n (looked_at name grid n)
    → Comes told (λ held. read_feature_tables held folder (feature_items (joins_in table)) n) (λ all. AreTablesFiles folder all tables) k
    → Comes told (λ held. read_schema_in held folder name bytes n) (λ S. IsSchemaIn folder bytes tables S) k
schema_found told folder name bytes grid table tables n k v read same r all =
    let b = subst (λ (x : Grid). Comes told (λ held. read_feature_tables held folder (feature_items (joins_in x)) n) (λ all. AreTablesFiles folder all tables) k) same all in
    record {
      value = record { fcs = Some grid; tables = b.value };
      is = record { grid = grid; is = refl; opened = read; fixed = r.is.fixed; columns = r.is.columns; are = b.is };
      comes = λ held e. looked_then held folder name bytes grid n v read r ∙ rw (b.comes held e) refl;
    }

-- ---- its files

file_of : (folder bytes : List ℕ) (fcs : Option Grid) (file : File) (grid : Grid) → fcs ≡ Some grid → IsSchemaFileOption folder (Some grid) (Some file)
    → IsSchemaFileOption folder fcs (Some file)
file_of folder bytes fcs file grid is h = subst (λ (x : Option Grid). IsSchemaFileOption folder x (Some file)) (sym is) h

schema_with : (folder name bytes : List ℕ) (tables : List TableFiles) (S : Schema) (kept : FeatureFiles) → name ≡ schema_name folder
    → kept.fcs ≡ Some (record { name = name; bytes = bytes }) → kept.tables.items ≡ tables → IsSchemaIn folder bytes tables S → AreSchemaFiles folder S kept
schema_with folder name bytes tables S kept named fcs same h =
    let file : File = record { name = name; bytes = bytes } in
    let own = file_of folder bytes S.fcs file h.grid h.is (record { name = named; opened = h.opened; fixed = h.fixed; columns = h.columns }) in
    record {
      fcs = subst (λ (x : Option File). IsSchemaFileOption folder S.fcs x) (sym fcs) own;
      tables = subst (λ (x : List TableFiles). AreTablesFiles folder S.tables x) (sym same) h.are;
    }

pub schema_kept : (told : Option Files) (folder name spelled bytes items : List ℕ) (tables : List TableFiles) (kept : FeatureFiles) (n k : ℕ) → name ≡ schema_name folder
    → spelled ≡ name → items ≡ bytes → kept.fcs ≡ Some (record { name = name; bytes = bytes }) → kept.tables.items ≡ tables
    → Comes told (λ held. read_schema_in held folder spelled items n) (λ S. IsSchemaIn folder items tables S) k
    → Comes told (λ held. read_schema_in held folder name bytes n) (λ S. AreSchemaFiles folder S kept) k
schema_kept told folder name spelled bytes items tables kept n k named one two fcs same a =
    let b = subst (λ (x : List ℕ). Comes told (λ held. read_schema_in held folder x bytes n) (λ S. IsSchemaIn folder bytes tables S) k) one
    (subst (λ (x : List ℕ). Comes told (λ held. read_schema_in held folder spelled x n) (λ S. IsSchemaIn folder x tables S) k) two a) in
    record { value = b.value; is = schema_with folder name bytes tables b.value kept named fcs same b.is; comes = b.comes }

-- ---- the schema of a folder

abbrev AllLoad : Option Files → (folder : List ℕ) (n0 n : ℕ) → Result FeatureFiles LoadStop → Type 0
AllLoad told folder n0 n result = LoadsAs told (λ held. read_schema held folder n0) (λ (v : FeatureFiles) S. AreSchemaFiles folder S v) result n

schema_after : (held : Files) (told : Option Files) (folder name : List ℕ) (m n : ℕ) (found : Option (Vec ℕ Global)) (bytes : Vec ℕ Global) → name ≡ schema_name folder
    → FindsBytes told name m n found → told ≡ Some held → found ≡ Some bytes → read_schema held folder m ≡ read_schema_in held folder name bytes.items n
schema_after held told folder name m n found bytes named finds e is =
    let whole : read_optional held name m ≡ (Ok (Some bytes.items), n) = bytes_found held told name m n found (Some bytes) finds e is in
    let here : read_optional held (schema_name folder) m ≡ (Ok (Some bytes.items), n) = ap (λ (x : List ℕ). read_optional held x m) (sym named) ∙ whole in
    rw (here, named) refl

pub schema_loads : (told now : Option Files) (folder name spelled : List ℕ) (m n k : ℕ) (found : Option (Vec ℕ Global)) (bytes : Vec ℕ Global) (result : Result FeatureFiles LoadStop)
    → spelled ≡ schema_name folder → name ≡ schema_name folder → now ≡ told → FindsBytes told spelled m n found → found ≡ Some bytes
    → LoadsAs now (λ held. read_schema_in held folder name bytes.items n) (λ (v : FeatureFiles) S. AreSchemaFiles folder S v) result k → AllLoad told folder m k result
schema_loads told now folder name spelled m n k found bytes (Ok v) named own same finds is a = record {
  value = a.value;
  is = a.is;
  comes = λ held e. schema_after held told folder spelled m n found bytes named finds e is ∙ ap (λ (x : List ℕ). read_schema_in held folder x bytes.items n) (named ∙ sym own) ∙ a.comes held (same ∙ e);
}
schema_loads told now folder name spelled m n k found bytes (Err stop) named own same finds is a = λ held e.
    rw (schema_after held told folder spelled m n found bytes named finds e is ∙ ap (λ (x : List ℕ). read_schema_in held folder x bytes.items n) (named ∙ sym own)) (a held (same ∙ e))

pub no_schema : (told : Option Files) (folder spelled : List ℕ) (m n : ℕ) (found : Option (Vec ℕ Global)) (kept : FeatureFiles) → spelled ≡ schema_name folder → FindsBytes told spelled m n found
    → found ≡ None → kept.fcs ≡ None → kept.tables.items ≡ []
    → Comes told (λ held. read_schema held folder m) (λ S. AreSchemaFiles folder S kept) n
no_schema told folder spelled m n found kept named finds is fcs none = record {
  value = record { fcs = None; tables = [] };
  is = record {
    fcs = subst (λ (x : Option File). IsSchemaFileOption folder None x) (sym fcs) tt;
    tables = subst (λ (x : List TableFiles). AreTablesFiles folder [] x) (sym none) tt;
  };
  comes = λ held e.
      let here : read_optional held (schema_name folder) m ≡ (Ok None, n) =
      ap (λ (x : List ℕ). read_optional held x m) (sym named) ∙ bytes_found held told spelled m n found None finds e is in
      rw here refl;
}

-- ---- what is said of the whole

pub all_told : (told : Option Files) (folder : List ℕ) (n0 n : ℕ) (result : Result FeatureFiles LoadStop) → AllLoad told folder n0 n result
    → (held : Files) → told ≡ Some held → ReadsAs (λ v S. AreSchemaFiles folder S v) result n (read_schema held folder n0)
all_told told folder n0 n (Ok v) h held t = record { value = h.value; comes = h.comes held t; is = h.is }
all_told told folder n0 n (Err stop) h held t = h held t

pub all_are : (told : Option Files) (folder : List ℕ) (n0 n : ℕ) (result : Result FeatureFiles LoadStop) → AllLoad told folder n0 n result → IfOk result (AreOfSchema folder)
all_are told folder n0 n (Ok v) h = (h.value, h.is)
all_are told folder n0 n (Err stop) h = tt
