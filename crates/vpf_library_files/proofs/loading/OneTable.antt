-- Files are of one table alone, and a table that is read is that of its files.
use Rattle.std.proofs.Common.{[], ◌≡◌, ◌∙◌, ◌⊎◌, inl, inr, ℕ, Bool, true, false, not, ◌==◌, List, ◌∷◌, ◌++◌, length, Option, None, Some, Ok, Err, refl, sym, ap, subst}
use Rattle.std.specs.Prelude.{IfOk, Result, if◌then◌else◌, is_some}
use Rattle.std.specs.Option.{option_map}
use Rattle.vpf_source.specs.Files.{Files}
use Rattle.vpf_source.specs.declared.file.File.{File}
use Rattle.vpf_head.specs.Head.{varies_in}
use Rattle.vpf_source.specs.Names.Indexes.{index_name}
use Rattle.vpf_table.specs.Grid.{Grid}
use Rattle.vpf_table.specs.Reading.{table_of}
use Rattle.vpf_table.specs.Opening.{opened_of}
use Rattle.vpf_table.specs.Spans.{IsOpened}
use Rattle.vpf_base.proofs.Results.{ok_is}
use Rattle.vpf_library_files.specs.declared.loading.loading.LoadStop.{LoadStop}
use Rattle.vpf_library_files.specs.Loading.Loading.{LoadedTable, ◌and_then◌, loaded_file, files_in, grid_in, read_optional, read_optional_table, read_required, read_table, read_table_in, tabled, with_its_index, with_own_index}
use Rattle.vpf_library_files.specs.Loading.Holding.{AreFilesOf, AreFilesOfOption}
use Rattle.vpf_library_files.specs.Loading.Loads.{AddsOption, AddsTable, Comes, IsTableFound, LoadsAs, ReadsAs, ReadsValue, maybe}
use Rattle.vpf_library_files.specs.Inner.Loading.StepLaws.{gives, graded_is, never_vary_both_ways, steps, value_is}
use Rattle.vpf_library_files.proofs.loading.TableLaws.{OpenedIsRead, SpelledIsOpened}
use Rattle.vpf_library_files.specs.Inner.Loading.HeldLaws.{table_of_grid}

-- lists of files that begin with a file of one name
same_file : (a b : File) (r s : List File) → a ∷ r ≡ b ∷ s → a ≡ b
same_file a b r s e = cc

same_rest : (a b : File) (r s : List File) → a ∷ r ≡ b ∷ s → r ≡ s
same_rest a b r s e = cc

same_bytes : (name b c : List ℕ) (r s : List File) → loaded_file name b ∷ r ≡ loaded_file name c ∷ s → b ≡ c
same_bytes name b c r s e = ap (λ (file : File). file.bytes) (same_file (loaded_file name b) (loaded_file name c) r s e)

-- files that are read as a table whose rows have one length
pub record ReadPlain (name : List ℕ) (grid : Grid) (files : List File) : Type 0 where
  pub bytes : List ℕ
  pub are : files ≡ loaded_file name bytes ∷ []
  pub read : table_of bytes ≡ Ok grid
  pub one_length : varies_in grid.head.columns ≡ false

-- files that are read as a table whose rows vary, and its index
pub record ReadIndexed (name : List ℕ) (grid : Grid) (files : List File) : Type 0 where
  pub bytes : List ℕ
  pub index : List ℕ
  pub are : files ≡ loaded_file name bytes ∷ loaded_file (index_name name) index ∷ []
  pub read : table_of bytes ≡ Ok grid
  pub varies : varies_in grid.head.columns ≡ true

abbrev pub AreRead : List ℕ → Grid → List File → Type 0
AreRead name grid files = ReadPlain name grid files ⊎ ReadIndexed name grid files

-- the same of a table that may be absent
abbrev pub AreReadOption : List ℕ → Option Grid → List File → Type 0
AreReadOption name None files = files ≡ []
AreReadOption name (Some grid) files = AreRead name grid files

-- the files of a table are read as it
files_read : SpelledIsOpened → OpenedIsRead → (name : List ℕ) (grid : Grid) (files : List File) → AreFilesOf name grid files → AreRead name grid files
files_read spelled read name grid files (inl p) = inl (record { bytes = p.bytes; are = p.are; read = spelled p.bytes None grid p.opened; one_length = p.one_length })
files_read spelled read name grid files (inr p) =
    inr (record { bytes = p.bytes; index = p.index; are = p.are; read = read p.bytes (Some p.index) grid (spelled p.bytes (Some p.index) grid p.opened); varies = p.varies })

files_read_option : SpelledIsOpened → OpenedIsRead → (name : List ℕ) (grid : Option Grid) (files : List File) → AreFilesOfOption name grid files → AreReadOption name grid files
files_read_option spelled read name None files p = p
files_read_option spelled read name (Some grid) files p = files_read spelled read name grid files p

one_grid : (b c : List ℕ) (x y : Grid) → b ≡ c → table_of b ≡ Ok x → table_of c ≡ Ok y → x ≡ y
one_grid b c x y same e f = ok_is (sym e ∙ ap table_of same ∙ f)

-- files that begin with those of a table are of that table alone, and what is behind them is the same
same_table : (name : List ℕ) (x y : Grid) (a b r s : List File) → AreRead name x a → AreRead name y b → a ++ r ≡ b ++ s → (x ≡ y) × (r ≡ s)
same_table name x y a b r s (inl p) (inl q) e =
    let begun = rw (p.are, q.are) at e in
    let bytes = same_bytes name p.bytes q.bytes r s begun in
    (one_grid p.bytes q.bytes x y bytes p.read q.read, same_rest (loaded_file name p.bytes) (loaded_file name q.bytes) r s begun)
same_table name x y a b r s (inl p) (inr q) e =
    let begun = rw (p.are, q.are) at e in
    let bytes = same_bytes name p.bytes q.bytes r (loaded_file (index_name name) q.index ∷ s) begun in
    absurd (never_vary_both_ways x y (one_grid p.bytes q.bytes x y bytes p.read q.read) p.one_length q.varies)
same_table name x y a b r s (inr p) (inl q) e =
    let begun = rw (p.are, q.are) at e in
    let bytes = same_bytes name p.bytes q.bytes (loaded_file (index_name name) p.index ∷ r) s begun in
    absurd (never_vary_both_ways y x (one_grid q.bytes p.bytes y x (sym bytes) q.read p.read) q.one_length p.varies)
same_table name x y a b r s (inr p) (inr q) e =
    let begun = rw (p.are, q.are) at e in
    let i = loaded_file (index_name name) p.index in
    let j = loaded_file (index_name name) q.index in
    let bytes = same_bytes name p.bytes q.bytes (i ∷ r) (j ∷ s) begun in
    let behind = same_rest (loaded_file name p.bytes) (loaded_file name q.bytes) (i ∷ r) (j ∷ s) begun in
    (one_grid p.bytes q.bytes x y bytes p.read q.read, same_rest i j r s behind)

-- a table has a file
some_file : (name : List ℕ) (x : Grid) (a : List File) → AreRead name x a → a ≡ [] → ⊥
some_file name x a (inl p) e = let n : loaded_file name p.bytes ∷ [] ≡ [] = sym p.are ∙ e in cc
some_file name x a (inr p) e = let n : loaded_file name p.bytes ∷ loaded_file (index_name name) p.index ∷ [] ≡ [] = sym p.are ∙ e in cc

-- the last table, which may be absent
same_last : (name : List ℕ) (x y : Option Grid) (a b : List File) → AreReadOption name x a → AreReadOption name y b → a ≡ b → x ≡ y
same_last name None None a b p q e = refl
same_last name None (Some y) a b p q e = absurd (some_file name y b q (sym e ∙ p))
same_last name (Some x) None a b p q e = absurd (some_file name x a p (e ∙ q))
same_last name (Some x) (Some y) a b p q e = ap Some (same_table name x y a b [] [] p q (ap (λ files. files ++ []) e)).0

same_so : (name : List ℕ) (x t : LoadedTable) → x ≡ t → AreRead name x.grid x.files → AreRead name t.grid t.files
same_so name x t e h = rw e at h

-- the files of a table whose own bytes are read so
with_index_read : OpenedIsRead → (held : Files) (name bytes : List ℕ) (grid : Grid) (t : LoadedTable) (n k : ℕ) (varies : Bool) → table_of bytes ≡ Ok grid → varies_in grid.head.columns ≡ varies
    → (if varies then (read_required held (index_name name) n and_then with_own_index name bytes) else gives (table_of_grid grid (loaded_file name bytes ∷ [])) n) ≡ (Ok t, k)
    → AreRead name t.grid t.files
with_index_read again held name bytes grid t n k false read v e =
    same_so name (table_of_grid grid (loaded_file name bytes ∷ [])) t (value_is (table_of_grid grid (loaded_file name bytes ∷ [])) t n k e)
    (inl (record { bytes = bytes; are = refl; read = read; one_length = v }))
with_index_read again held name bytes grid t n k true read v e =
    let s = steps (read_required held (index_name name) n) (with_own_index name bytes) t k e in
    let g = graded_is (index_name name) (λ own i. gives (table_of_grid own (loaded_file name bytes ∷ loaded_file (index_name name) s.0 ∷ [])) i) (opened_of bytes (Some s.0)) s.1 t k s.3 in
    let two = table_of_grid g.0 (loaded_file name bytes ∷ loaded_file (index_name name) s.0 ∷ []) in
    let own = again bytes (Some s.0) g.0 g.1 in
    let one : g.0 ≡ grid = ok_is (sym own ∙ read) in
    same_so name two t (value_is two t s.1 k g.2) (inr (record { bytes = bytes; index = s.0; are = refl; read = own; varies = rw one v }))

table_in_read : OpenedIsRead → (held : Files) (name bytes : List ℕ) (t : LoadedTable) (n k : ℕ) → read_table_in held name bytes n ≡ (Ok t, k) → AreRead name t.grid t.files
table_in_read again held name bytes t n k e =
    let g = graded_is name (with_its_index held name bytes) (table_of bytes) n t k e in
    with_index_read again held name bytes g.0 t n k (varies_in g.0.head.columns) g.1 refl g.2

table_read : OpenedIsRead → (held : Files) (name : List ℕ) (t : LoadedTable) (m k : ℕ) → read_table held name m ≡ (Ok t, k) → AreRead name t.grid t.files
table_read again held name t m k e =
    let s = steps (read_required held name m) (read_table_in held name) t k e in
    table_in_read again held name s.0 t s.1 k s.3

-- the last table, which may be absent
last_so : (name : List ℕ) (x t : Option LoadedTable) → x ≡ t → AreReadOption name (grid_in x) (files_in x) → AreReadOption name (grid_in t) (files_in t)
last_so name x t e h = rw e at h

found_read : OpenedIsRead → (held : Files) (name : List ℕ) (found : Option (List ℕ)) (t : Option LoadedTable) (n k : ℕ) → tabled held name found n ≡ (Ok t, k) → AreReadOption name (grid_in t) (files_in t)
found_read again held name None t n k f = last_so name None t (value_is None t n k f) refl
found_read again held name (Some bytes) t n k f =
    let s = steps (read_table_in held name bytes n) (λ table i. gives (Some table) i) t k f in
    last_so name (Some s.0) t (value_is (Some s.0) t s.1 k s.3) (table_in_read again held name bytes s.0 n s.1 s.2)

last_read : OpenedIsRead → (held : Files) (name : List ℕ) (t : Option LoadedTable) (m k : ℕ) → read_optional_table held name m ≡ (Ok t, k) → AreReadOption name (grid_in t) (files_in t)
last_read again held name t m k e =
    let s = steps (read_optional held name m) (tabled held name) t k e in
    found_read again held name s.0 t s.1 k s.3

-- ---- the files that a call adds are those of the table that is read

linked : SpelledIsOpened → OpenedIsRead → (held : Files) (name : List ℕ) (t : LoadedTable) (grid : Grid) (m k : ℕ) → read_table held name m ≡ (Ok t, k)
    → AreFilesOf name grid t.files → AreFilesOf name t.grid t.files
linked spelled again held name t grid m k e are =
    let one = same_table name grid t.grid t.files t.files [] [] (files_read spelled again name grid t.files are) (table_read again held name t m k e) refl in
    subst (λ (x : Grid). AreFilesOf name x t.files) one.0 are

linked_option : SpelledIsOpened → OpenedIsRead → (held : Files) (name : List ℕ) (t : Option LoadedTable) (grid : Option Grid) (m k : ℕ)
    → read_optional_table held name m ≡ (Ok t, k) → AreFilesOfOption name grid (files_in t) → AreFilesOfOption name (grid_in t) (files_in t)
linked_option spelled again held name t grid m k e are =
    let one = same_last name grid (grid_in t) (files_in t) (files_in t) (files_read_option spelled again name grid (files_in t) are) (last_read again held name t m k e) refl in
    subst (λ (x : Option Grid). AreFilesOfOption name x (files_in t)) one are

not_told : (held : Files) → None ≡ Some held → ⊥
not_told held e = cc

one_held : (a b : Files) → Some a ≡ Some b → a ≡ b
one_held a b e = cc

table_here : SpelledIsOpened → OpenedIsRead → (told : Option Files) (name : List ℕ) (m n : ℕ) (old new : List File) (added : List File)
    → ((held : Files) → told ≡ Some held → ReadsValue (λ (v : List File) (t : LoadedTable). t.files ≡ v) added n (read_table held name m))
    → (grid : Grid) × AreFilesOf name grid added → new ≡ old ++ added
    → Comes told (λ held. read_table held name m) (λ t. AddsTable name old new t) n
table_here spelled again None name m n old new added reads are behind = record {
  value = table_of_grid are.0 added;
  is = record { behind = behind; are = are.1 };
  comes = λ held e. absurd (not_told held e);
}
table_here spelled again (Some files) name m n old new added reads are behind =
    let r = reads files refl in
    let same : added ≡ r.value.files = sym r.is in
    let put : new ≡ old ++ r.value.files = behind ∙ ap (λ x. old ++ x) same in
    record {
      value = r.value;
      is = record {
        behind = put;
        are = linked spelled again files name r.value are.0 m n r.comes (subst (λ (x : List File). AreFilesOf name are.0 x) same are.1);
      };
      comes = λ held e. subst (λ (x : Files). read_table x name m ≡ (Ok r.value, n)) (one_held files held e) r.comes;
    }

pub table_adds : SpelledIsOpened → OpenedIsRead → (told : Option Files) (here name : List ℕ) (m n : ℕ) (old new : List File) (added : List File)
    → here ≡ name
    → ((held : Files) → told ≡ Some held → ReadsValue (λ (v : List File) (t : LoadedTable). t.files ≡ v) added n (read_table held here m))
    → (grid : Grid) × AreFilesOf here grid added → new ≡ old ++ added
    → Comes told (λ held. read_table held name m) (λ t. AddsTable name old new t) n
table_adds spelled again told here name m n old new added named reads are behind =
    subst (λ (x : List ℕ). Comes told (λ held. read_table held x m) (λ t. AddsTable x old new t) n) named (table_here spelled again told here m n old new added reads are behind)

-- whether a table is there shows in its files
read_some : (name : List ℕ) (grid : Grid) (files : List File) → AreRead name grid files → true ≡ not (length files == 0)
read_some name grid files (inl p) = rw p.are refl
read_some name grid files (inr p) = rw p.are refl

there_is : (name : List ℕ) (t : Option LoadedTable) → AreReadOption name (grid_in t) (files_in t) → not (length (files_in t) == 0) ≡ is_some t
there_is name None p = refl
there_is name (Some t) p = sym (read_some name t.grid t.files p)

abbrev some_of : Option Grid → List File → Option LoadedTable
some_of None files = None
some_of (Some grid) files = Some (table_of_grid grid files)

some_adds : SpelledIsOpened → OpenedIsRead → (name : List ℕ) (grid : Option Grid) (old new added : List File) → AreFilesOfOption name grid added → new ≡ old ++ added
    → AddsOption name old new (not (length added == 0)) (some_of grid added)
some_adds spelled again name None old new added are behind = record { tells = rw are refl; behind = behind ∙ ap (λ x. old ++ x) are; are = refl }
some_adds spelled again name (Some grid) old new added are behind = record {
  tells = there_is name (Some (table_of_grid grid added)) (files_read spelled again name grid added are);
  behind = behind;
  are = are;
}

option_here : SpelledIsOpened → OpenedIsRead → (told : Option Files) (name : List ℕ) (m n : ℕ) (old new : List File) (added : List File)
    → ((held : Files) → told ≡ Some held → ReadsValue (λ (v : List File) (t : Option LoadedTable). files_in t ≡ v) added n (read_optional_table held name m))
    → (grid : Option Grid) × AreFilesOfOption name grid added → new ≡ old ++ added
    → Comes told (λ held. read_optional_table held name m) (λ t. AddsOption name old new (not (length added == 0)) t) n
option_here spelled again None name m n old new added reads are behind = record {
  value = some_of are.0 added;
  is = some_adds spelled again name are.0 old new added are.1 behind;
  comes = λ held e. absurd (not_told held e);
}
option_here spelled again (Some files) name m n old new added reads are behind =
    let r = reads files refl in
    let same : added ≡ files_in r.value = sym r.is in
    let put : new ≡ old ++ files_in r.value = behind ∙ ap (λ x. old ++ x) same in
    record {
      value = r.value;
      is = record {
        tells = ap (λ (x : List File). not (length x == 0)) same ∙ there_is name r.value (last_read again files name r.value m n r.comes);
        behind = put;
        are = linked_option spelled again files name r.value are.0 m n r.comes (subst (λ (x : List File). AreFilesOfOption name are.0 x) same are.1);
      };
      comes = λ held e. subst (λ (x : Files). read_optional_table x name m ≡ (Ok r.value, n)) (one_held files held e) r.comes;
    }

pub option_adds : SpelledIsOpened → OpenedIsRead → (told : Option Files) (here name : List ℕ) (m n : ℕ) (old new : List File) (added : List File) (there : Bool)
    → here ≡ name → there ≡ not (length added == 0)
    → ((held : Files) → told ≡ Some held → ReadsValue (λ (v : List File) (t : Option LoadedTable). files_in t ≡ v) added n (read_optional_table held here m))
    → (grid : Option Grid) × AreFilesOfOption here grid added → new ≡ old ++ added
    → Comes told (λ held. read_optional_table held name m) (λ t. AddsOption name old new there t) n
option_adds spelled again told here name m n old new added there named tells reads are behind =
    subst (λ (b : Bool). Comes told (λ held. read_optional_table held name m) (λ t. AddsOption name old new b t) n) (sym tells)
    (subst (λ (x : List ℕ). Comes told (λ held. read_optional_table held x m) (λ t. AddsOption x old new (not (length added == 0)) t) n) named
    (option_here spelled again told here m n old new added reads are behind))

-- ---- a table that was found in bytes

abbrev files_found : (name bytes : List ℕ) → Option File → List File
files_found name bytes index = loaded_file name bytes ∷ maybe index

found_here : SpelledIsOpened → OpenedIsRead → (told : Option Files) (name bytes : List ℕ) (grid : Grid) (files : List File) (m n : ℕ)
    → ((held : Files) → told ≡ Some held → ReadsValue (λ (v : List File) (t : LoadedTable). t.files ≡ v) files n (read_table_in held name bytes m))
    → AreFilesOf name grid files → Comes told (λ held. read_table_in held name bytes m) (λ t. IsTableFound grid files t) n
found_here spelled again None name bytes grid files m n reads are = record {
  value = table_of_grid grid files;
  is = record { grid_is = refl; files_are = refl };
  comes = λ held e. absurd (not_told held e);
}
found_here spelled again (Some told) name bytes grid files m n reads are =
    let r = reads told refl in
    let one = same_table name grid r.value.grid files r.value.files [] [] (files_read spelled again name grid files are) (table_in_read again told name bytes r.value m n r.comes)
    (ap (λ (x : List File). x ++ []) (sym r.is)) in
    record {
      value = r.value;
      is = record { grid_is = sym one.0; files_are = r.is };
      comes = λ held e. subst (λ (x : Files). read_table_in x name bytes m ≡ (Ok r.value, n)) (one_held told held e) r.comes;
    }

pub found_comes : {V : Type 0} → SpelledIsOpened → OpenedIsRead → (told : Option Files) (name bytes : List ℕ) (m n : ℕ) (result : Result V LoadStop) (grid : V → Grid) (index : V → Option File)
    → ((held : Files) → told ≡ Some held
    → ReadsAs (λ (found : V) (t : LoadedTable). t.files ≡ files_found name bytes (index found)) result n (read_table_in held name bytes m))
    → IfOk result (λ (found : V). AreFilesOf name (grid found) (files_found name bytes (index found)))
    → LoadsAs told (λ held. read_table_in held name bytes m) (λ (found : V) t. IsTableFound (grid found) (files_found name bytes (index found)) t) result n
found_comes spelled again told name bytes m n (Ok found) grid index reads are =
    found_here spelled again told name bytes (grid found) (files_found name bytes (index found)) m n
    (λ held e. let r = reads held e in record { value = r.value; comes = r.comes; is = r.is }) are
found_comes spelled again told name bytes m n (Err stop) grid index reads are = reads

-- a table that was found is opened with its index
pub opened_beside : (name bytes : List ℕ) (grid : Grid) (index : Option File) → AreFilesOf name grid (files_found name bytes index)
    → IsOpened grid bytes (option_map (λ (file : File). file.bytes) index)
opened_beside name bytes grid None (inl p) =
    let one : bytes ≡ p.bytes = same_bytes name bytes p.bytes [] [] p.are in
    subst (λ (x : List ℕ). IsOpened grid x None) (sym one) p.opened
opened_beside name bytes grid None (inr p) = let no : loaded_file name bytes ∷ [] ≡ loaded_file name p.bytes ∷ loaded_file (index_name name) p.index ∷ [] = p.are in cc
opened_beside name bytes grid (Some file) (inl p) = let no : loaded_file name bytes ∷ file ∷ [] ≡ loaded_file name p.bytes ∷ [] = p.are in cc
opened_beside name bytes grid (Some file) (inr p) =
    let i = loaded_file (index_name name) p.index in
    let one : bytes ≡ p.bytes = same_bytes name bytes p.bytes (file ∷ []) (i ∷ []) p.are in
    let two : file ≡ i = same_file file i [] [] (same_rest (loaded_file name bytes) (loaded_file name p.bytes) (file ∷ []) (i ∷ []) p.are) in
    subst (λ (x : List ℕ). IsOpened grid x (Some file.bytes)) (sym one) (subst (λ (x : List ℕ). IsOpened grid p.bytes (Some x)) (sym (ap (λ (f : File). f.bytes) two)) p.opened)
