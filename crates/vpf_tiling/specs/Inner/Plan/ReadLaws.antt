-- What comes of reading files one after another.
use Rattle.std.proofs.Common.{[], ◌≡◌, ◌∙◌, ℕ, Bool, true, false, List, ◌∷◌, Option, None, Some, Ok, Err, refl, sym, ap, subst, inl, inr}
use Rattle.std.specs.Prelude.{Result, if◌then◌else◌, IfSome}
use Rattle.vpf_source.specs.Files.{Files}
use Rattle.vpf_source.specs.declared.file.File.{File}
use Rattle.vpf_triplet.specs.declared.places.Place.{Place}
use Rattle.vpf_head.specs.Head.{varies_in}
use Rattle.vpf_source.specs.Names.Indexes.{index_name}
use Rattle.vpf_table.specs.Grid.{Grid}
use Rattle.vpf_table.specs.Opening.{opened_of}
use Rattle.vpf_table.specs.Reading.{table_of}
use Rattle.vpf_table.specs.Spans.{IsOpened}
use Rattle.vpf_library_files.specs.declared.loading.loading.LoadStop.{LoadStop}
use Rattle.vpf_library_files.specs.Loading.Holding.{AreFilesOf}
use Rattle.vpf_library_files.specs.Loading.Loading.{Read, LoadedTable, ◌and_then◌, graded, loaded_file, read_required, read_table, read_table_in, with_its_index, with_own_index}

-- a value and a count
abbrev pub came_read : {V : Type 0} → V → ℕ → Read V
came_read v n = (Ok v, n)

-- what stops it, and a count
abbrev halted : {V : Type 0} → LoadStop → ℕ → Read V
halted stop n = (Err stop, n)

abbrev first_part : {V : Type 0} → Read V → Result V LoadStop
first_part read = read.0

abbrev pub valued : {V : Type 0} → V → Result V LoadStop
valued v = Ok v

same_valued : {V : Type 0} (x y : V) → valued x ≡ valued y → x ≡ y
same_valued x y e = cc

pub came_same : {V : Type 0} (n k : ℕ) (x y : V) → came_read x n ≡ came_read y k → x ≡ y
came_same n k x y e = same_valued x y (ap first_part e)

never_valued : {V : Type 0} (v : V) (stop : LoadStop) → Err stop ≡ valued v → ⊥
never_valued v stop e = cc

never_came : {V : Type 0} (n k : ℕ) (v : V) (stop : LoadStop) → halted stop n ≡ came_read v k → ⊥
never_came n k v stop e = never_valued v stop (ap first_part e)

-- two steps that came_read to a value
pub record CameOf {V W : Type 0} (read : Read V) (next : V → ℕ → Read W) (w : W) (k : ℕ) : Type 0 where
  pub value : V
  pub count : ℕ
  pub first : read ≡ (Ok value, count)
  pub then_ : next value count ≡ (Ok w, k)

pub came_read_of : {V W : Type 0} (read : Read V) (next : V → ℕ → Read W) (w : W) (k : ℕ) → (read and_then next) ≡ (Ok w, k) → CameOf read next w k
came_read_of (Ok v, n) next w k e = record { value = v; count = n; first = refl; then_ = e }
came_read_of (Err stop, n) next w k e = absurd (never_came n k w stop e)

-- what is known of tables: spelled ones are read, and so are those that are opened with their indexes
abbrev pub OpensRead : Type 0
OpensRead = (bytes : List ℕ) (index : Option (List ℕ)) (g : Grid) → opened_of bytes index ≡ Ok g → table_of bytes ≡ Ok g

abbrev pub SpelledOpens : Type 0
SpelledOpens = (bytes : List ℕ) (index : Option (List ℕ)) (g : Grid) → IsOpened g bytes index → opened_of bytes index ≡ Ok g

-- the first of some files is read as the table
record BeginsAs (name : List ℕ) (grid : Grid) (files : List File) : Type 0 where
  bytes : List ℕ
  rest : List File
  are : files ≡ loaded_file name bytes ∷ rest
  read : table_of bytes ≡ Ok grid

files_begin : SpelledOpens → OpensRead → (name : List ℕ) (grid : Grid) (files : List File) → AreFilesOf name grid files → BeginsAs name grid files
files_begin spelled again name grid files (inl p) =
    record { bytes = p.bytes; rest = []; are = p.are; read = again p.bytes None grid (spelled p.bytes None grid p.opened) }
files_begin spelled again name grid files (inr p) = record {
  bytes = p.bytes;
  rest = loaded_file (index_name name) p.index ∷ [];
  are = p.are;
  read = again p.bytes (Some p.index) grid (spelled p.bytes (Some p.index) grid p.opened);
}

begins_so : (name : List ℕ) (n k : ℕ) (x t : LoadedTable) → came_read x n ≡ came_read t k → BeginsAs name x.grid x.files → BeginsAs name t.grid t.files
begins_so name n k x t e h = rw (came_same n k x t e) at h

abbrev of_table : Grid → List File → LoadedTable
of_table grid files = record { grid = grid; files = files }

own_begins : OpensRead → (name bytes index : List ℕ) (opened : Result Grid Place) (t : LoadedTable) (n k : ℕ) → opened_of bytes (Some index) ≡ opened
    → graded (index_name name) (λ grid i. came_read (of_table grid (loaded_file name bytes ∷ loaded_file (index_name name) index ∷ [])) i) opened n ≡ (Ok t, k)
    → BeginsAs name t.grid t.files
own_begins again name bytes index (Ok g) t n k is e =
    begins_so name n k (of_table g (loaded_file name bytes ∷ loaded_file (index_name name) index ∷ [])) t e
    (record { bytes = bytes; rest = loaded_file (index_name name) index ∷ []; are = refl; read = again bytes (Some index) g is })
own_begins again name bytes index (Err place) t n k is e = absurd (never_came n k t _ e)

index_begins : OpensRead → (held : Files) (name bytes : List ℕ) (grid : Grid) (t : LoadedTable) (n k : ℕ) (varies : Bool) → table_of bytes ≡ Ok grid
    → (if varies then (read_required held (index_name name) n and_then with_own_index name bytes) else came_read (of_table grid (loaded_file name bytes ∷ [])) n) ≡ (Ok t, k)
    → BeginsAs name t.grid t.files
index_begins again held name bytes grid t n k true read e =
    let s = came_read_of (read_required held (index_name name) n) (with_own_index name bytes) t k e in
    own_begins again name bytes s.value (opened_of bytes (Some s.value)) t s.count k refl s.then_
index_begins again held name bytes grid t n k false read e =
    begins_so name n k (of_table grid (loaded_file name bytes ∷ [])) t e (record { bytes = bytes; rest = []; are = refl; read = read })

bytes_begin : OpensRead → (held : Files) (name bytes : List ℕ) (table : Result Grid Place) (t : LoadedTable) (n k : ℕ) → table_of bytes ≡ table
    → graded name (with_its_index held name bytes) table n ≡ (Ok t, k) → BeginsAs name t.grid t.files
bytes_begin again held name bytes (Ok grid) t n k is e = index_begins again held name bytes grid t n k (varies_in grid.head.columns) is e
bytes_begin again held name bytes (Err place) t n k is e = absurd (never_came n k t _ e)

table_begins : OpensRead → (held : Files) (name : List ℕ) (t : LoadedTable) (m k : ℕ) → read_table held name m ≡ (Ok t, k) → BeginsAs name t.grid t.files
table_begins again held name t m k e =
    let s = came_read_of (read_required held name m) (read_table_in held name) t k e in
    bytes_begin again held name s.value (table_of s.value) t s.count k refl s.then_

first_bytes : (name b c : List ℕ) (r s : List File) → loaded_file name b ∷ r ≡ loaded_file name c ∷ s → b ≡ c
first_bytes name b c r s e = let f : loaded_file name b ≡ loaded_file name c = cc in ap (λ (file : File). file.bytes) f

abbrev the_grid : Grid → Result Grid Place
the_grid g = Ok g

read_same : (b c : List ℕ) (x y : Grid) → b ≡ c → table_of b ≡ Ok x → table_of c ≡ Ok y → x ≡ y
read_same b c x y same e f = let g : the_grid x ≡ the_grid y = sym e ∙ ap table_of same ∙ f in cc

begins_one : (name : List ℕ) (x y : Grid) (files : List File) → BeginsAs name x files → BeginsAs name y files → x ≡ y
begins_one name x y files a b = read_same a.bytes b.bytes x y (first_bytes name a.bytes b.bytes a.rest b.rest (sym a.are ∙ b.are)) a.read b.read

-- files that are some table, and that are read as one, are the one that is read
pub table_is : SpelledOpens → OpensRead → (held : Files) (name : List ℕ) (m n : ℕ) (t : LoadedTable) (grid : Grid) (files : List File) → read_table held name m ≡ (Ok t, n)
    → t.files ≡ files → AreFilesOf name grid files → AreFilesOf name t.grid files
table_is spelled again held name m n t grid files e whole are =
    let read = subst (λ (x : List File). BeginsAs name t.grid x) whole (table_begins again held name t m n e) in
    let one = begins_one name grid t.grid files (files_begin spelled again name grid files are) read in
    subst (λ (x : Grid). AreFilesOf name x files) one are

-- a stop that is seen ends what would be read next
pub ends_so : {V W : Type 0} (next : V → ℕ → Read W) (read : Read V) (n : ℕ) (seen : Option LoadStop) → IfSome seen (λ stop. read ≡ (Err stop, n))
    → IfSome seen (λ stop. (read and_then next) ≡ (Err stop, n))
ends_so next read n None h = tt
ends_so next read n (Some stop) h = rw h refl
