-- A table that is written is read again, with its variable-length index where its rows vary.
use Rattle.std.proofs.Common.{[], ◌≡◌, ℕ, ◌+◌, Bool, true, false, cond, List, ◌∷◌, ◌++◌, length, Option, Some, None, Ok, refl, sym, ap, subst, ◌∙◌, arith}
use Rattle.std.specs.Prelude.{is_some}
use Rattle.std.proofs.lemmas.List.{append-nil}
use Rattle.vpf_source.specs.Files.{Files}
use Rattle.vpf_source.specs.declared.file.File.{File}
use Rattle.vpf_triplet.specs.declared.places.Part.{Part}
use Rattle.vpf_head.specs.Canonical.{canonical_text}
use Rattle.vpf_head.specs.Head.{varies_in}
use Rattle.vpf_source.specs.Names.Indexes.{index_name}
use Rattle.vpf_varindex.specs.RowIndex.{row_index}
use Rattle.vpf_table.specs.declared.limit.Limit.{Limit as Passed}
use Rattle.vpf_table.specs.Canonical.{IsWritable, canonical_index, canonical_spans, canonical_table}
use Rattle.vpf_table.specs.Grid.{Grid}
use Rattle.vpf_table.specs.Opening.{opened_of}
use Rattle.vpf_table.specs.Reading.{table_of}
use Rattle.vpf_findings.specs.Firsts.{◌or◌}
use Rattle.vpf_write.specs.Writing.{first_limit}
use Rattle.vpf_write.specs.Made.Files.{index_files, table_files}
use Rattle.vpf_library_files.specs.Loading.Holding.{bytes_in}
use Rattle.vpf_library_files.specs.Loading.Loading.{loaded_file, read_optional, read_optional_table, within}
use Rattle.vpf_library_files.specs.TableFiles.Adding.{NamedTable, named_limit, table_within, unless_limited}
use Rattle.vpf_feature_writing.specs.Making.{table_made}
use Rattle.vpf_feature_writing.proofs.feature_reading.HeldLemmas.{AreFit, file_read, one_read}
use Rattle.vpf_library_files.specs.Inner.Loading.HeldLaws.{counted_so}

-- the laws of tables that are written
pub record WrittenLaws : Type 0 where
  pub again : (g : Grid) → IsWritable g → first_limit g ≡ None → table_of (canonical_table g) ≡ Ok g
  pub opened : (g : Grid) → IsWritable g → first_limit g ≡ None → opened_of (canonical_table g) (canonical_index g) ≡ Ok g

-- ---- the files that are made of a table

-- they pass no limit
pub record IsMade (name : List ℕ) (grid : Grid) (made : List File) : Type 0 where
  pub none : first_limit grid ≡ None
  pub are : made ≡ table_files name grid

made_by : (name : List ℕ) (grid : Grid) (stop : Option (Part × Passed)) (table : NamedTable) (made : List File) → table ≡ record { name = name; grid = grid }
    → first_limit grid ≡ stop
    → unless_limited (table ∷ []) (named_limit name stop or None) ≡ Ok made → IsMade name grid made
made_by name grid None table made same stop e =
    let files : made ≡ table_files table.name table.grid ++ [] = cc e in
    record { none = stop; are = files ∙ append-nil (table_files table.name table.grid) ∙ ap (λ (t : NamedTable). table_files t.name t.grid) same }
made_by name grid (Some limit) table made same stop e = absurd (cc e)

pub made_is : (folder name : List ℕ) (grid : Grid) (made : List File) → table_made folder name grid ≡ Ok made → IsMade (within folder name) grid made
made_is folder name grid made e = made_by (within folder name) grid (first_limit grid) (table_within folder name grid) made refl refl e

-- ---- they are read

-- a table that may be absent is there
pub record IsReadAgain (held : Files) (name : List ℕ) (grid : Grid) (loaded behind : ℕ) : Type 0 where
  pub files : List File
  pub read : read_optional_table held name loaded ≡ (Ok (Some (record { grid = grid; files = files })), behind)

abbrev table_and_index : (name bytes : List ℕ) → Option (List ℕ) → List File
table_and_index name bytes index = loaded_file name bytes ∷ index_files name index

plain_read : (held : Files) (name bytes : List ℕ) (grid : Grid) (n : ℕ) → varies_in grid.head.columns ≡ false → table_of bytes ≡ Ok grid
    → read_optional held name n ≡ (Ok (Some bytes), n + length bytes)
    → read_optional_table held name n ≡ (Ok (Some (record { grid = grid; files = loaded_file name bytes ∷ [] })), n + length bytes)
plain_read held name bytes grid n fixed table e = rw (e, table, fixed) refl

indexed_read : (held : Files) (name bytes index : List ℕ) (grid : Grid) (n : ℕ) → varies_in grid.head.columns ≡ true → table_of bytes ≡ Ok grid
    → opened_of bytes (Some index) ≡ Ok grid
    → read_optional held name n ≡ (Ok (Some bytes), n + length bytes)
    → read_optional held (index_name name) (n + length bytes) ≡ (Ok (Some index), n + length bytes + length index)
    → read_optional_table held name n
    ≡ (Ok (Some (record { grid = grid; files = loaded_file name bytes ∷ loaded_file (index_name name) index ∷ [] })), n + length bytes + length index)
indexed_read held name bytes index grid n varies table opened e f = rw (e, table, varies, f, opened) refl

held_again : (held : Files) (name bytes : List ℕ) (index : Option (List ℕ)) (grid : Grid) (n : ℕ) → varies_in grid.head.columns ≡ is_some index
    → table_of bytes ≡ Ok grid
    → opened_of bytes index ≡ Ok grid → AreFit held (table_and_index name bytes index) n
    → IsReadAgain held name grid n (n + bytes_in (table_and_index name bytes index))
held_again held name bytes None grid n varies table opened fit =
    let sum : n + length bytes ≡ n + (length bytes + 0) = omega arith in
    let files = loaded_file name bytes ∷ [] in
    let read = plain_read held name bytes grid n varies table (one_read held name bytes n fit) in
    record {
      files = files;
      read = counted_so (read_optional_table held name n) (Some (record { grid = grid; files = files })) (n + length bytes) (n + (length bytes + 0)) read sum;
    }
held_again held name bytes (Some index) grid n varies table opened fit =
    let few = fit.few in
    let sum : n + length bytes + length index ≡ n + (length bytes + (length index + 0)) = omega arith in
    let files = loaded_file name bytes ∷ loaded_file (index_name name) index ∷ [] in
    let first = file_read held name bytes n fit.there.0 fit.there.1 (omega (arith, few)) in
    let second = file_read held (index_name name) index (n + length bytes) fit.there.2.0 fit.there.2.1 (omega (arith, few)) in
    let read = indexed_read held name bytes index grid n varies table opened first second in
    record {
      files = files;
      read = counted_so (read_optional_table held name n) (Some (record { grid = grid; files = files })) (n + length bytes + length index)
          (n + (length bytes + (length index + 0))) read sum;
    }

varies_so : (varies : Bool) (index : List ℕ) → varies ≡ is_some (cond varies (Some index) None)
varies_so true index = refl
varies_so false index = refl

pub table_again : WrittenLaws → (held : Files) (name : List ℕ) (grid : Grid) (n : ℕ) (made : List File) → IsWritable grid → IsMade name grid made
    → AreFit held made n
    → IsReadAgain held name grid n (n + bytes_in made)
table_again laws held name grid n made w is fit =
    let index = row_index grid.head.order (length (canonical_text grid.head)) (canonical_spans grid) in
    let own = subst (λ (files : List File). AreFit held files n) is.are fit in
    let read = held_again held name (canonical_table grid) (canonical_index grid) grid n (varies_so (varies_in grid.head.columns) index)
    (laws.again grid w is.none)
    (laws.opened grid w is.none) own in
    subst (λ (files : List File). IsReadAgain held name grid n (n + bytes_in files)) (sym is.are) read

-- ---- a table whose rows don't vary has one file

fixed_files : (name bytes : List ℕ) (varies : Bool) (index : List ℕ) → varies ≡ false
    → table_and_index name bytes (cond varies (Some index) None) ≡ loaded_file name bytes ∷ []
fixed_files name bytes true index e = absurd (cc e)
fixed_files name bytes false index e = refl

pub one_made : (name : List ℕ) (grid : Grid) (made : List File) → varies_in grid.head.columns ≡ false → IsMade name grid made
    → made ≡ loaded_file name (canonical_table grid) ∷ []
one_made name grid made fixed is =
    is.are ∙ fixed_files name (canonical_table grid) (varies_in grid.head.columns)
    (row_index grid.head.order (length (canonical_text grid.head)) (canonical_spans grid)) fixed
