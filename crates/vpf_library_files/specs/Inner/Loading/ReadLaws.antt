-- A table that was read is held (MIL-STD-2407, 5.2.2).
use Rattle.std.proofs.Common.{[], ◌≡◌, ◌∙◌, inl, inr, ℕ, ◌+◌, ◌≤◌, Bool, true, false, List, ◌∷◌, length, Option, None, Some, Ok, nat_le, refl, sym, ap, arith}
use Rattle.std.specs.Prelude.{IfSome, if◌then◌else◌}
use Rattle.std.proofs.lemmas.Bool.{leb-true}
use Rattle.vpf_base.specs.Bytes.{IsBytes}
use Rattle.vpf_base.specs.Limits.{most_bytes}
use Rattle.vpf_base.proofs.Results.{ok_is}
use Rattle.vpf_source.specs.Files.{Files, HoldsBytes}
use Rattle.vpf_source.specs.Names.Indexes.{index_name}
use Rattle.vpf_head.specs.Head.{varies_in}
use Rattle.vpf_table.specs.declared.limit.Bound.TheVariants as bounds
use Rattle.vpf_table.specs.Grid.{Grid}
use Rattle.vpf_table.specs.Opening.{opened_of}
use Rattle.vpf_table.specs.Reading.{table_of}
use Rattle.vpf_table.specs.Spans.{IsOpened}
use Rattle.vpf_library_files.specs.declared.loading.loading.LoadStop.{LoadStop}
use Rattle.vpf_library_files.specs.declared.loading.loading.LoadStop.TheVariants as stops
use Rattle.vpf_library_files.specs.Loading.Holding.{AreFilesOf, AreHeld, bytes_in}
use Rattle.vpf_library_files.specs.Loading.Loading.{LoadedTable, ◌and_then◌, loaded_file, most_loaded, read_bytes, read_found, read_optional, read_optional_table, read_required, read_table, read_table_in, required, tabled, with_its_index, with_own_index}
use Rattle.vpf_library_files.specs.Inner.Loading.StepLaws.{one_count, gives, graded_is, no_value, steps, stopped, value_is}
use Rattle.vpf_library_files.specs.Inner.Loading.HeldLaws.{table_of_grid}

-- ---- what is known of tables by their own laws

-- tables that are opened are spelled; one that is opened with its index is read without it
pub record OpenedAreSpelled : Type 0 where
  pub spelled : (bytes : List ℕ) (index : Option (List ℕ)) (g : Grid) → IsBytes bytes → IfSome index IsBytes → opened_of bytes index ≡ Ok g
      → IsOpened g bytes index
  pub again : (bytes : List ℕ) (index : Option (List ℕ)) (g : Grid) → opened_of bytes index ≡ Ok g → table_of bytes ≡ Ok g

-- ---- files

-- a file that was read: it is there, within both limits, and counted
pub record WasRead (file : Option (List ℕ)) (bytes : List ℕ) (m k : ℕ) : Type 0 where
  pub there : file ≡ Some bytes
  pub few : length bytes ≤ most_bytes
  pub sum : k ≡ m + length bytes
  pub most : k ≤ most_loaded

abbrev some : List ℕ → Option (List ℕ)
some a = Some a

some_is : (a b : List ℕ) → some a ≡ Some b → a ≡ b
some_is a b e = cc

not_none : (a : List ℕ) → some a ≡ None → ⊥
not_none a e = cc

-- the tests of both limits were passed
tests_passed : {V : Type 0} (one all : Bool) (v : V) (sum m k : ℕ) (file run : LoadStop) (w : V)
    → (if one then (if all then gives v sum else stopped run m) else stopped file m) ≡ (Ok w, k) → (one ≡ true) × (all ≡ true) × (v ≡ w) × (sum ≡ k)
tests_passed true true v sum m k file run w e = (refl, refl, value_is v w sum k e, one_count v w sum k e)
tests_passed true false v sum m k file run w e = absurd (no_value run m k w e)
tests_passed false all v sum m k file run w e = absurd (no_value file m k w e)

bytes_are_read : (name bytes found : List ℕ) (m k : ℕ) → read_bytes name bytes m ≡ (Ok (Some found), k) → WasRead (Some bytes) found m k
bytes_are_read name bytes found m k e =
    let sum = m + length bytes in
    let file = stops.Limit name (record { what = bounds.File; found = length bytes }) in
    let run = stops.Limit name (record { what = bounds.Loaded; found = sum }) in
    let passed = tests_passed (nat_le (length bytes) most_bytes) (nat_le sum most_loaded) (Some bytes) sum m k file run (Some found) e in
    let same : bytes ≡ found = some_is bytes found passed.2 in
    let few = leb-true (length bytes) most_bytes passed.0 in
    let most = leb-true sum most_loaded passed.1 in
    record {
      there = passed.2;
      few = rw same at few;
      sum = rw same at (sym passed.3);
      most = rw passed.3 at most;
    }

-- where nothing is read the file is absent
pub none_read : (name : List ℕ) (file : Option (List ℕ)) (m k : ℕ) → read_found name file m ≡ (Ok None, k) → (file ≡ None) × (m ≡ k)
none_read name None m k e = (refl, one_count None None m k e)
none_read name (Some bytes) m k e =
    let sum = m + length bytes in
    let file = stops.Limit name (record { what = bounds.File; found = length bytes }) in
    let run = stops.Limit name (record { what = bounds.Loaded; found = sum }) in
    let passed = tests_passed (nat_le (length bytes) most_bytes) (nat_le sum most_loaded) (Some bytes) sum m k file run None e in
    absurd (not_none bytes passed.2)

pub some_read : (name found : List ℕ) (file : Option (List ℕ)) (m k : ℕ) → read_found name file m ≡ (Ok (Some found), k) → WasRead file found m k
some_read name found None m k e = absurd (not_none found (sym (value_is None (Some found) m k e)))
some_read name found (Some bytes) m k e = bytes_are_read name bytes found m k e

required_has : (name bytes : List ℕ) (found : Option (List ℕ)) (n k : ℕ) → required name found n ≡ (Ok bytes, k) → (found ≡ Some bytes) × (n ≡ k)
required_has name bytes None n k e = absurd (no_value (stops.Missing name) n k bytes e)
required_has name bytes (Some found) n k e = (ap Some (value_is found bytes n k e), one_count found bytes n k e)

-- a file that has to be there
required_is : (held : Files) (name bytes : List ℕ) (m k : ℕ) → read_required held name m ≡ (Ok bytes, k) → WasRead (held name) bytes m k
required_is held name bytes m k e =
    let s = steps (read_optional held name m) (required name) bytes k e in
    let r = required_has name bytes s.0 s.1 k s.3 in
    some_read name bytes (held name) m k (rw (r.0, r.1) at s.2)

-- the bytes of a file that a tree of bytes holds
pub are_bytes : (held : Files) (name bytes : List ℕ) → HoldsBytes held → held name ≡ Some bytes → IsBytes bytes
are_bytes held name bytes all e = rw e at (all name)

-- ---- tables

-- a table that was read: its files are there, and counted
pub record TableRead (held : Files) (name : List ℕ) (t : LoadedTable) (m k : ℕ) : Type 0 where
  pub are : AreFilesOf name t.grid t.files
  pub there : AreHeld held t.files
  pub sum : k ≡ m + bytes_in t.files
  pub most : k ≤ most_loaded

-- a table whose rows have one length
plain_is : OpenedAreSpelled → (held : Files) (name bytes : List ℕ) (grid : Grid) (t : LoadedTable) (m n k : ℕ) → HoldsBytes held
    → WasRead (held name) bytes m n → table_of bytes ≡ Ok grid
    → varies_in grid.head.columns ≡ false → table_of_grid grid (loaded_file name bytes ∷ []) ≡ t → n ≡ k → TableRead held name t m k
plain_is laws held name bytes grid t m n k all r read same e f =
    let opened = laws.spelled bytes None grid (are_bytes held name bytes all r.there) tt read in
    let sum = r.sum in
    let made : TableRead held name (table_of_grid grid (loaded_file name bytes ∷ [])) m n = record {
      are = inl (record { bytes = bytes; are = refl; opened = opened; one_length = same });
      there = (r.there, r.few, tt);
      sum = omega (arith, sum);
      most = r.most;
    } in
    rw (e, f) at made

-- a table whose rows vary, with its index
indexed_is : OpenedAreSpelled → (held : Files) (name bytes index : List ℕ) (grid own : Grid) (t : LoadedTable) (m n i k : ℕ) → HoldsBytes held
    → WasRead (held name) bytes m n → table_of bytes ≡ Ok grid → varies_in grid.head.columns ≡ true → WasRead (held (index_name name)) index n i
    → opened_of bytes (Some index) ≡ Ok own → table_of_grid own (loaded_file name bytes ∷ loaded_file (index_name name) index ∷ []) ≡ t → i ≡ k
    → TableRead held name t m k
indexed_is laws held name bytes index grid own t m n i k all r read varies s both e f =
    let opened = laws.spelled bytes (Some index) own (are_bytes held name bytes all r.there) (are_bytes held (index_name name) index all s.there) both in
    let one : own ≡ grid = ok_is (sym (laws.again bytes (Some index) own both) ∙ read) in
    let sum = r.sum in
    let more = s.sum in
    let made : TableRead held name (table_of_grid own (loaded_file name bytes ∷ loaded_file (index_name name) index ∷ [])) m i = record {
      are = inr (record { bytes = bytes; index = index; are = refl; opened = opened; varies = rw one varies });
      there = (r.there, r.few, (s.there, s.few, tt));
      sum = omega (arith, sum, more);
      most = s.most;
    } in
    rw (e, f) at made

-- the files of a table whose own bytes were read
with_index_is : OpenedAreSpelled → (held : Files) (name bytes : List ℕ) (grid : Grid) (t : LoadedTable) (m n k : ℕ) (varies : Bool) → HoldsBytes held
    → WasRead (held name) bytes m n → table_of bytes ≡ Ok grid → varies_in grid.head.columns ≡ varies
    → (if varies then (read_required held (index_name name) n and_then with_own_index name bytes) else gives (table_of_grid grid (loaded_file name bytes ∷ [])) n)
    ≡ (Ok t, k)
    → TableRead held name t m k
with_index_is laws held name bytes grid t m n k false all r read v e =
    let one = table_of_grid grid (loaded_file name bytes ∷ []) in
    plain_is laws held name bytes grid t m n k all r read v (value_is one t n k e) (one_count one t n k e)
with_index_is laws held name bytes grid t m n k true all r read v e =
    let s = steps (read_required held (index_name name) n) (with_own_index name bytes) t k e in
    let g = graded_is (index_name name) (λ own i. gives (table_of_grid own (loaded_file name bytes ∷ loaded_file (index_name name) s.0 ∷ [])) i)
    (opened_of bytes (Some s.0)) s.1 t k s.3 in
    let two = table_of_grid g.0 (loaded_file name bytes ∷ loaded_file (index_name name) s.0 ∷ []) in
    indexed_is laws held name bytes s.0 grid g.0 t m n s.1 k all r read v (required_is held (index_name name) s.0 n s.1 s.2) g.1 (value_is two t s.1 k g.2)
    (one_count two t s.1 k g.2)

pub table_in_is : OpenedAreSpelled → (held : Files) (name bytes : List ℕ) (t : LoadedTable) (m n k : ℕ) → HoldsBytes held → WasRead (held name) bytes m n
    → read_table_in held name bytes n ≡ (Ok t, k) → TableRead held name t m k
table_in_is laws held name bytes t m n k all r e =
    let g = graded_is name (with_its_index held name bytes) (table_of bytes) n t k e in
    with_index_is laws held name bytes g.0 t m n k (varies_in g.0.head.columns) all r g.1 refl g.2

-- a table that has to be there
pub required_table_is : OpenedAreSpelled → (held : Files) (name : List ℕ) (t : LoadedTable) (m k : ℕ) → HoldsBytes held
    → read_table held name m ≡ (Ok t, k) → TableRead held name t m k
required_table_is laws held name t m k all e =
    let s = steps (read_required held name m) (read_table_in held name) t k e in
    table_in_is laws held name s.0 t m s.1 k all (required_is held name s.0 m s.1 s.2) s.3

-- a table that may be absent
abbrev pub TableReadOption : Files → (name : List ℕ) → Option LoadedTable → (m k : ℕ) → Type 0
TableReadOption held name None m k = (held name ≡ None) × (m ≡ k)
TableReadOption held name (Some t) m k = TableRead held name t m k

option_so : (held : Files) (name : List ℕ) (x t : Option LoadedTable) (m n k : ℕ) → TableReadOption held name x m n → x ≡ t → n ≡ k
    → TableReadOption held name t m k
option_so held name x t m n k r e f = rw (e, f) at r

found_is : OpenedAreSpelled → (held : Files) (name : List ℕ) (found : Option (List ℕ)) (t : Option LoadedTable) (m n k : ℕ) → HoldsBytes held
    → read_optional held name m ≡ (Ok found, n) → tabled held name found n ≡ (Ok t, k) → TableReadOption held name t m k
found_is laws held name None t m n k all e f =
    option_so held name None t m n k (none_read name (held name) m n e) (value_is None t n k f) (one_count None t n k f)
found_is laws held name (Some bytes) t m n k all e f =
    let s = steps (read_table_in held name bytes n) (λ table i. gives (Some table) i) t k f in
    let r = table_in_is laws held name bytes s.0 m n s.1 all (some_read name bytes (held name) m n e) s.2 in
    option_so held name (Some s.0) t m s.1 k r (value_is (Some s.0) t s.1 k s.3) (one_count (Some s.0) t s.1 k s.3)

pub optional_is : OpenedAreSpelled → (held : Files) (name : List ℕ) (t : Option LoadedTable) (m k : ℕ) → HoldsBytes held
    → read_optional_table held name m ≡ (Ok t, k) → TableReadOption held name t m k
optional_is laws held name t m k all e =
    let s = steps (read_optional held name m) (tabled held name) t k e in
    found_is laws held name s.0 t m s.1 k all s.2 s.3
