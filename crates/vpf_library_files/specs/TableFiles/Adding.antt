-- Tables that are written under their names, one behind another: their files, or the first limit that one passes.
use Rattle.std.specs.Prelude.{◌≡◌, ℕ, List, [], ◌∷◌, ◌++◌, flat_map, Option, None, Some, Result, Ok, Err}
use Rattle.vpf_source.specs.declared.file.File.{File}
use Rattle.vpf_triplet.specs.declared.places.Part.{Part}
use Rattle.vpf_table.specs.declared.limit.Limit.{Limit as Passed}
use Rattle.vpf_table.specs.Grid.{Grid}
use Rattle.vpf_findings.specs.Firsts.{◌or◌}
use Rattle.vpf_write.specs.Writing.{first_limit}
use Rattle.vpf_write.specs.Made.Files.{part_name, table_files}
use Rattle.vpf_library_files.specs.Loading.Loading.{within}
use Rattle.vpf_library_files.specs.declared.table_files.errors.AddError.{AddError}
use Rattle.vpf_library_files.specs.declared.table_files.errors.AddError.TheVariants as errors

-- a table, and the name of its file
pub record NamedTable : Type 0 where
  pub name : List ℕ
  pub grid : Grid

-- a table under this name
abbrev pub named_table : List ℕ → Grid → NamedTable
named_table name grid = record { name = name; grid = grid }

-- a table under this name within a folder
abbrev pub table_within : (folder name : List ℕ) → Grid → NamedTable
table_within folder name grid = named_table (within folder name) grid

-- the files of a table, in its canonical spelling: its own, and its index behind it where its rows vary
abbrev pub files_of_table : NamedTable → List File
files_of_table table = table_files table.name table.grid

-- the files of tables
abbrev pub files_made : List NamedTable → List File
files_made tables = flat_map files_of_table tables

-- the limit that a table passes, with the name of the file that would
abbrev pub named_limit : List ℕ → Option (Part × Passed) → Option (List ℕ × Passed)
named_limit name None = None
named_limit name (Some stop) = Some (part_name name stop.0, stop.1)

-- the first limit that any of some tables passes
abbrev pub first_limit_of : List NamedTable → Option (List ℕ × Passed)
first_limit_of [] = None
first_limit_of (table ∷ tables) = named_limit table.name (first_limit table.grid) or first_limit_of tables

-- the files of tables stand behind some files, and none passes a limit
abbrev pub AreAdded : List NamedTable → (old new : List File) → Type 0
AreAdded tables old new = (first_limit_of tables ≡ None) × (new ≡ old ++ files_made tables)

-- this is why some tables aren't added: the first limit that one passes, or want of memory, of which nothing is said
abbrev pub FailsAdding : List NamedTable → AddError → Type 0
FailsAdding tables (errors.Limit name limit) = first_limit_of tables ≡ Some (name, limit)
FailsAdding tables errors.NoMemory = Unit {0}

-- tables are added behind some files, or this is why they aren't
abbrev pub Adds : {V : Type 0} → List NamedTable → (old new : List File) → Result V AddError → Type 0
Adds tables old new (Ok v) = AreAdded tables old new
Adds tables old new (Err error) = FailsAdding tables error

-- what writing tables as files answers; of want of memory nothing is seen
abbrev pub error_seen : AddError → Option AddError
error_seen errors.NoMemory = None
error_seen error = Some error

-- the files of tables, unless they pass a limit
abbrev pub unless_limited : List NamedTable → Option (List ℕ × Passed) → Result (List File) AddError
unless_limited tables None = Ok (files_made tables)
unless_limited tables (Some limit) = Err (errors.Limit limit.0 limit.1)

-- the same
abbrev pub made_of_tables : List NamedTable → Result (List File) AddError
made_of_tables tables = unless_limited tables (first_limit_of tables)
