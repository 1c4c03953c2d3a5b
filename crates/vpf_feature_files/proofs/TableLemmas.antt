-- What reading a feature table comes to.
use Rattle.std.proofs.Common.{Vec, Global, ◌≡◌, ◌∙◌, ℕ, List, Option, None, Some, Ok, Err, refl, sym, ap, subst}
use Rattle.std.specs.Prelude.{option_map}
use Rattle.vpf_source.specs.Files.{Files}
use Rattle.vpf_source.specs.declared.file.File.{File}
use Rattle.vpf_head.specs.Head.{Head}
use Rattle.vpf_table.specs.Grid.{Grid}
use Rattle.vpf_library_files.specs.declared.loading.loading.LoadStop.{LoadStop}
use Rattle.vpf_library_files.specs.Loading.Holding.{AreFilesOf}
use Rattle.vpf_library_files.specs.Loading.Loading.{LoadedTable, Read, ◌and_then◌, read_optional, read_table_in, within}
use Rattle.vpf_library_files.specs.Loading.Loads.{Comes, IsTableFound, ReadsStop, ReadsValue}
use Rattle.vpf_library_files.specs.Inner.Loading.StepLaws.{gives}
use Rattle.vpf_feature_files.specs.declared.files.TableFiles.{TableFiles}
use Rattle.vpf_feature_files.specs.Inner.Held.{AreIndexFiles}
use Rattle.vpf_feature_files.specs.Inner.Loads.{AreTableFilesOption}
use Rattle.vpf_feature_files.specs.Reading.{read_indexes, read_named_table, read_with_indexes, with_indexes}
use Rattle.vpf_feature_files.specs.Schemas.{FeatureTable, Index}
use Rattle.vpf_feature_files.proofs.Steps.{ends, found_is}

-- ---- the table in some bytes, with its indexes

pub table_stops : (held : Files) (folder file name bytes : List ℕ) (m n : ℕ) (stop : LoadStop) → name ≡ within folder file → ReadsStop stop n (read_table_in held name bytes m)
    → ReadsStop stop n (read_with_indexes held folder file bytes m)
table_stops held folder file name bytes m n stop named h =
    ends (λ (table : LoadedTable) i. with_indexes held folder file (Some table) i) (read_table_in held (within folder file) bytes m) n stop
    (subst (λ (x : List ℕ). ReadsStop stop n (read_table_in held x bytes m)) named h)

-- what is read of it
abbrev with_them : (file : List ℕ) → Grid → List (Option Index) → ℕ → Read (Option FeatureTable)
with_them file grid indexes n = (Ok (Some (record { name = file; grid = grid; indexes = indexes })), n)

-- the table was found in the bytes
abbrev pub Found : (told : Option Files) (name bytes : List ℕ) (m n : ℕ) → Grid → List File → Type 0
Found told name bytes m n grid files = Comes told (λ held. read_table_in held name bytes m) (λ t. IsTableFound grid files t) n

found_read : (held : Files) (folder file name bytes : List ℕ) (m n : ℕ) (t : LoadedTable) → name ≡ within folder file → read_table_in held name bytes m ≡ (Ok t, n)
    → read_with_indexes held folder file bytes m ≡ (read_indexes held folder t.grid.head.order t.grid.head.columns n and_then with_them file t.grid)
found_read held folder file name bytes m n t named e =
    let whole : read_table_in held (within folder file) bytes m ≡ (Ok t, n) = ap (λ (x : List ℕ). read_table_in held x bytes m) (sym named) ∙ e in
    rw whole refl

own_head : (grid : Grid) (head : Head) (files : List File) (t : LoadedTable) → head ≡ grid.head → IsTableFound grid files t → head ≡ t.grid.head
own_head grid head files t same is = same ∙ ap (λ (x : Grid). x.head) (sym is.grid_is)

pub indexes_stop : (told now : Option Files) (folder file name bytes : List ℕ) (grid : Grid) (head : Head) (files : List File) (m n k : ℕ) (stop : LoadStop)
    → name ≡ within folder file → now ≡ told → head ≡ grid.head → Found told name bytes m n grid files
    → ((held : Files) → now ≡ Some held → ReadsStop stop k (read_indexes held folder head.order head.columns n))
    → (held : Files) → told ≡ Some held → ReadsStop stop k (read_with_indexes held folder file bytes m)
indexes_stop told now folder file name bytes grid head files m n k stop named same is a stops held e =
    let t = a.value in
    let own = own_head grid head files t is a.is in
    rw (found_read held folder file name bytes m n t named (a.comes held e))
    (ends (with_them file t.grid) (read_indexes held folder t.grid.head.order t.grid.head.columns n) k stop
    (subst (λ (h : Head). ReadsStop stop k (read_indexes held folder h.order h.columns n)) own (stops held (same ∙ e))))

pub indexes_come : (told now : Option Files) (folder file name bytes : List ℕ) (grid : Grid) (head : Head) (files : List File) (kept : TableFiles) (m n k : ℕ)
    → name ≡ within folder file → now ≡ told → head ≡ grid.head → kept.name ≡ file → kept.table ≡ files → AreFilesOf name grid files → Found told name bytes m n grid files
    → Comes now (λ held. read_indexes held folder head.order head.columns n) (λ indexes. AreIndexFiles head.order indexes kept.indexes.items) k
    → Comes told (λ held. read_with_indexes held folder file bytes m) (λ table. AreTableFilesOption folder table (Some kept)) k
indexes_come told now folder file name bytes grid head files kept m n k named same is own alike are a indexes =
    let t = a.value in
    let whole = own_head grid head files t is a.is in
    let b = subst (λ (h : Head). Comes now (λ held. read_indexes held folder h.order h.columns n) (λ indexes. AreIndexFiles h.order indexes kept.indexes.items) k) whole indexes in
    let grown = subst (λ (x : List ℕ). AreFilesOf x t.grid files) named (subst (λ (x : Grid). AreFilesOf name x files) (sym a.is.grid_is) are) in
    record {
      value = Some (record { name = file; grid = t.grid; indexes = b.value });
      is = record { name = own; own = subst (λ (x : List File). AreFilesOf (within folder file) t.grid x) (sym alike) grown; indexes = b.is };
      comes = λ held e. found_read held folder file name bytes m n t named (a.comes held e) ∙ rw (b.comes held (same ∙ e)) refl;
    }

-- ---- the table in a file

some_after : {W : Type 0} (read : Read LoadedTable) (next : Option LoadedTable → ℕ → Read W)
    → ((read and_then λ t n. gives (Some t) n) and_then next) ≡ (read and_then λ t n. next (Some t) n)
some_after (Ok t, n) next = refl
some_after (Err stop, n) next = refl

abbrev items_in : Option (Vec ℕ Global) → Option (List ℕ)
items_in found = option_map (λ (x : Vec ℕ Global). x.items) found

-- the bytes that were found in the file of this name
abbrev pub FindsBytes : (told : Option Files) (name : List ℕ) (m n : ℕ) → Option (Vec ℕ Global) → Type 0
FindsBytes told name m n found =
    (held : Files) → told ≡ Some held → ReadsValue (λ (v : Option (Vec ℕ Global)) (file : Option (List ℕ)). file ≡ option_map (λ (x : Vec ℕ Global). x.items) v) found n (read_optional held name m)

pub bytes_found : (held : Files) (told : Option Files) (name : List ℕ) (m n : ℕ) (found x : Option (Vec ℕ Global)) → FindsBytes told name m n found → told ≡ Some held → found ≡ x
    → read_optional held name m ≡ gives (items_in x) n
bytes_found held told name m n found x finds e is =
    found_is found n (read_optional held name m) (finds held e) ∙ ap (λ (y : Option (Vec ℕ Global)). gives (items_in y) n) is

file_read : (held : Files) (told : Option Files) (folder file name : List ℕ) (m n : ℕ) (found : Option (Vec ℕ Global)) (bytes : Vec ℕ Global) → name ≡ within folder file
    → FindsBytes told name m n found → told ≡ Some held → found ≡ Some bytes
    → read_named_table held folder (Some file) m ≡ read_with_indexes held folder file bytes.items n
file_read held told folder file name m n found bytes named finds e is =
    let whole : read_optional held (within folder file) m ≡ (Ok (Some bytes.items), n) =
    ap (λ (x : List ℕ). read_optional held x m) (sym named) ∙ bytes_found held told name m n found (Some bytes) finds e is in
    rw whole (some_after (read_table_in held (within folder file) bytes.items n) (with_indexes held folder file))

pub called_stop : (told now : Option Files) (folder file name : List ℕ) (m n k : ℕ) (found : Option (Vec ℕ Global)) (bytes : Vec ℕ Global) (stop : LoadStop) → name ≡ within folder file
    → now ≡ told → FindsBytes told name m n found → found ≡ Some bytes
    → ((held : Files) → now ≡ Some held → ReadsStop stop k (read_with_indexes held folder file bytes.items n))
    → (held : Files) → told ≡ Some held → ReadsStop stop k (read_named_table held folder (Some file) m)
called_stop told now folder file name m n k found bytes stop named same finds is stops held e =
    rw (file_read held told folder file name m n found bytes named finds e is) (stops held (same ∙ e))

pub called_comes : (told now : Option Files) (folder file name : List ℕ) (m n k : ℕ) (found : Option (Vec ℕ Global)) (bytes : Vec ℕ Global) (kept : Option TableFiles)
    → name ≡ within folder file → now ≡ told → FindsBytes told name m n found → found ≡ Some bytes
    → Comes now (λ held. read_with_indexes held folder file bytes.items n) (λ table. AreTableFilesOption folder table kept) k
    → Comes told (λ held. read_named_table held folder (Some file) m) (λ table. AreTableFilesOption folder table kept) k
called_comes told now folder file name m n k found bytes kept named same finds is a = record {
  value = a.value;
  is = a.is;
  comes = λ held e. file_read held told folder file name m n found bytes named finds e is ∙ a.comes held (same ∙ e);
}

pub called_none : (told : Option Files) (folder file name : List ℕ) (m n : ℕ) (found : Option (Vec ℕ Global)) → name ≡ within folder file → FindsBytes told name m n found → found ≡ None
    → Comes told (λ held. read_named_table held folder (Some file) m) (λ table. AreTableFilesOption folder table None) n
called_none told folder file name m n found named finds is = record {
  value = None;
  is = tt;
  comes = λ held e.
      let whole : read_optional held (within folder file) m ≡ (Ok None, n) =
      ap (λ (x : List ℕ). read_optional held x m) (sym named) ∙ bytes_found held told name m n found None finds e is in
      rw whole refl;
}
