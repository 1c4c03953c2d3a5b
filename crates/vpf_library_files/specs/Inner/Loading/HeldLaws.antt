-- A table that a tree holds is read.
use Rattle.std.proofs.Common.{[], ◌≡◌, inl, inr, ℕ, ◌+◌, ◌≤◌, true, false, List, ◌∷◌, length, Option, None, Some, Ok, Err, nat_le, refl, arith}
use Rattle.std.proofs.lemmas.Bool.{le-leb}
use Rattle.vpf_base.specs.Limits.{most_bytes}
use Rattle.vpf_source.specs.Files.{Files}
use Rattle.vpf_source.specs.Names.Indexes.{index_name}
use Rattle.vpf_source.specs.declared.file.File.{File}
use Rattle.vpf_head.specs.Head.{varies_in}
use Rattle.vpf_table.specs.Grid.{Grid}
use Rattle.vpf_table.specs.Opening.{opened_of}
use Rattle.vpf_table.specs.Reading.{table_of}
use Rattle.vpf_table.specs.Spans.{IsOpened}
use Rattle.vpf_library_files.specs.declared.loading.loading.LoadStop.TheVariants as stops
use Rattle.vpf_library_files.specs.Loading.Holding.{AreFilesOf, AreHeld, IsIndexedTable, IsPlainTable, bytes_in}
use Rattle.vpf_library_files.specs.Loading.Loading.{LoadedTable, Read, ◌and_then◌, loaded_file, most_loaded, read_bytes, read_required, read_table, read_table_in, required, tabled}
use Rattle.vpf_library_files.specs.Inner.Loading.StepLaws.{no_value}

-- bytes within the limits are read
pub loads_within : (name bytes : List ℕ) (m : ℕ) → length bytes ≤ most_bytes → m + length bytes ≤ most_loaded
    → read_bytes name bytes m ≡ (Ok (Some bytes), m + length bytes)
loads_within name bytes m few sum =
    let one : nat_le (length bytes) most_bytes ≡ true = le-leb (length bytes) most_bytes few in
    let all : nat_le (m + length bytes) most_loaded ≡ true = le-leb (m + length bytes) most_loaded sum in
    rw (one, all) refl

-- what was read, with the count in other words
pub counted_so : {V : Type 0} (read : Read V) (v : V) (n k : ℕ) → read ≡ (Ok v, n) → n ≡ k → read ≡ (Ok v, k)
counted_so read v n k e same = rw (e, same) refl

-- what is known of tables by their own laws: those that are spelled are opened, and one that is opened with its index is read without it
pub record SpelledAreOpened : Type 0 where
  pub opened : (bytes : List ℕ) (index : Option (List ℕ)) (g : Grid) → IsOpened g bytes index → opened_of bytes index ≡ Ok g
  pub again : (bytes : List ℕ) (index : Option (List ℕ)) (g : Grid) → opened_of bytes index ≡ Ok g → table_of bytes ≡ Ok g

-- a table and its files
abbrev pub table_of_grid : Grid → List File → LoadedTable
table_of_grid grid files = record { grid = grid; files = files }

-- a file that is held is read
pub file_is_loaded : (held : Files) (name bytes : List ℕ) (m : ℕ) → held name ≡ Some bytes → length bytes ≤ most_bytes → m + length bytes ≤ most_loaded
    → read_required held name m ≡ (Ok bytes, m + length bytes)
file_is_loaded held name bytes m e few sum = rw (e, loads_within name bytes m few sum) refl

-- a table whose rows have one length
plain_alone : SpelledAreOpened → (held : Files) (name bytes : List ℕ) (grid : Grid) (m : ℕ) → IsOpened grid bytes None → varies_in grid.head.columns ≡ false
    → held name ≡ Some bytes → length bytes ≤ most_bytes → m + length bytes ≤ most_loaded
    → read_table held name m ≡ (Ok (table_of_grid grid (loaded_file name bytes ∷ [])), m + length bytes)
plain_alone laws held name bytes grid m opened same e few sum = rw (file_is_loaded held name bytes m e few sum, laws.opened bytes None grid opened, same) refl

plain_is_loaded : SpelledAreOpened → (held : Files) (name : List ℕ) (grid : Grid) (files : List File) (m : ℕ) → IsPlainTable name grid files → AreHeld held files
    → m + bytes_in files ≤ most_loaded → read_table held name m ≡ (Ok (table_of_grid grid files), m + bytes_in files)
plain_is_loaded laws held name grid files m p h few =
    let there = rw p.are at h in
    let all = rw p.are at few in
    let sum : m + length p.bytes ≡ m + (length p.bytes + 0) = omega arith in
    let read = plain_alone laws held name p.bytes grid m p.opened p.one_length there.0 there.1 (omega (arith, all)) in
    rw p.are (counted_so (read_table held name m) (table_of_grid grid (loaded_file name p.bytes ∷ [])) (m + length p.bytes) (m + (length p.bytes + 0)) read sum)

-- a table whose rows vary, with its index
indexed_alone : SpelledAreOpened → (held : Files) (name bytes index : List ℕ) (grid : Grid) (m : ℕ) → IsOpened grid bytes (Some index)
    → varies_in grid.head.columns ≡ true
    → held name ≡ Some bytes → length bytes ≤ most_bytes → held (index_name name) ≡ Some index → length index ≤ most_bytes
    → m + length bytes + length index ≤ most_loaded
    → read_table held name m ≡ (Ok (table_of_grid grid (loaded_file name bytes ∷ loaded_file (index_name name) index ∷ [])), m + length bytes + length index)
indexed_alone laws held name bytes index grid m opened varies e few f small sum =
    let both = laws.opened bytes (Some index) grid opened in
    let table = laws.again bytes (Some index) grid both in
    rw (file_is_loaded held name bytes m e few (omega (arith, sum)), table, varies, file_is_loaded held (index_name name) index (m + length bytes) f small sum, both) refl

indexed_read : SpelledAreOpened → (held : Files) (name : List ℕ) (grid : Grid) (files : List File) (m : ℕ) → IsIndexedTable name grid files
    → AreHeld held files
    → m + bytes_in files ≤ most_loaded → read_table held name m ≡ (Ok (table_of_grid grid files), m + bytes_in files)
indexed_read laws held name grid files m p h few =
    let there = rw p.are at h in
    let all = rw p.are at few in
    let sum : m + length p.bytes + length p.index ≡ m + (length p.bytes + (length p.index + 0)) = omega arith in
    let done = indexed_alone laws held name p.bytes p.index grid m p.opened p.varies there.0 there.1 there.2.0 there.2.1 (omega (arith, all)) in
    rw p.are (counted_so (read_table held name m) (table_of_grid grid (loaded_file name p.bytes ∷ loaded_file (index_name name) p.index ∷ []))
    (m + length p.bytes + length p.index) (m + (length p.bytes + (length p.index + 0))) done sum)

pub held_is_loaded : SpelledAreOpened → (held : Files) (name : List ℕ) (grid : Grid) (files : List File) (m : ℕ) → AreFilesOf name grid files
    → AreHeld held files
    → m + bytes_in files ≤ most_loaded → read_table held name m ≡ (Ok (table_of_grid grid files), m + bytes_in files)
held_is_loaded laws held name grid files m (inl p) h few = plain_is_loaded laws held name grid files m p h few
held_is_loaded laws held name grid files m (inr p) h few = indexed_read laws held name grid files m p h few

-- a table that is read where it has to be there is read where it may be
pub loads_either : (held : Files) (name : List ℕ) (found : Read (Option (List ℕ))) (t : LoadedTable) (n : ℕ)
    → (found and_then required name and_then read_table_in held name) ≡ (Ok t, n)
    → (found and_then tabled held name) ≡ (Ok (Some t), n)
loads_either held name (Ok None, k) t n e = absurd (no_value (stops.Missing name) k n t e)
loads_either held name (Ok (Some bytes), k) t n e = rw e refl
loads_either held name (Err stop, k) t n e = absurd (no_value stop k n t e)
