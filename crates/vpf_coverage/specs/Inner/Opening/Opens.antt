-- Files that are opened as tables, one table after another: the name of a file decides what it is.
use Rattle.std.specs.Prelude.{◌≡◌, ◌⊎◌, ℕ, ◌+◌, Bool, true, false, List, [], ◌∷◌, Option, Some, None, Ok, codes}
use Rattle.std.specs.Str.{bytes_eq}
use Rattle.vpf_source.specs.declared.file.File.{File}
use Rattle.vpf_head.specs.Head.{varies_in}
use Rattle.vpf_table.specs.Grid.{Grid}
use Rattle.vpf_table.specs.Opening.{opened_of}
use Rattle.vpf_table.specs.Reading.{table_of}
use Rattle.vpf_prims.specs.Reading.{PrimitiveTables}
use Rattle.vpf_prims.specs.Tables.{files_of_grid}
use Rattle.vpf_library_files.specs.Loading.Loading.{within}

-- the first of some files is opened as a table, whose rows are of one length
pub record OpensPlain (grid : Grid) (rest files : List File) : Type 0 where
  pub file : File
  pub are : files ≡ file ∷ rest
  pub read : table_of file.bytes ≡ Ok grid
  pub one_length : varies_in grid.head.columns ≡ false

-- the first is opened as a table, whose rows vary, with the second as its index
pub record OpensIndexed (grid : Grid) (rest files : List File) : Type 0 where
  pub file : File
  pub index : File
  pub are : files ≡ file ∷ index ∷ rest
  pub read : table_of file.bytes ≡ Ok grid
  pub opened : opened_of file.bytes (Some index.bytes) ≡ Ok grid
  pub varies : varies_in grid.head.columns ≡ true

-- some files are opened as this table, and then those that are left
abbrev pub Opens : Grid → (rest files : List File) → Type 0
Opens grid rest files = OpensPlain grid rest files ⊎ OpensIndexed grid rest files

-- they are opened as some table
abbrev pub IsOpening : List File → Type 0
IsOpening files = (grid : Grid) × (rest : List File) × Opens grid rest files

-- there are files, and the first of them has this name
abbrev pub is_first_file : List ℕ → List File → Bool
is_first_file name [] = false
is_first_file name (file ∷ files) = bytes_eq file.name name

-- they are opened as the table of entity nodes of a folder, which is there where the first has its name
abbrev pub OpensEnd : (folder : List ℕ) → Option Grid → (rest files : List File) → Type 0
OpensEnd folder None rest files = (is_first_file (within folder (codes "end")) files ≡ false) × (files ≡ rest)
OpensEnd folder (Some grid) rest files = (is_first_file (within folder (codes "end")) files ≡ true) × Opens grid rest files

-- they are opened as such a table, or as none
abbrev pub IsOpeningEnd : (folder : List ℕ) → List File → Type 0
IsOpeningEnd folder files = (end : Option Grid) × (rest : List File) × OpensEnd folder end rest files

-- they are opened as the tables of a folder
pub record OpensTables (folder : List ℕ) (tables : PrimitiveTables) (rest files : List File) : Type 0 where
  pub fac_on : List File
  pub rng_on : List File
  pub cnd_on : List File
  pub end_on : List File
  pub edg : Opens tables.edg fac_on files
  pub fac : Opens tables.fac rng_on fac_on
  pub rng : Opens tables.rng cnd_on rng_on
  pub cnd : Opens tables.cnd end_on cnd_on
  pub end : OpensEnd folder tables.end rest end_on

-- they are opened as those of some tile in the folder
abbrev pub AreOpeningTables : (folder : List ℕ) → List File → Type 0
AreOpeningTables folder files = (tables : PrimitiveTables) × (rest : List File) × OpensTables folder tables rest files

-- they are opened as the tables of a folder that may be empty: it has tables where the first file has the name of its edges
abbrev pub OpensFolder : (folder : List ℕ) → Option PrimitiveTables → (rest files : List File) → Type 0
OpensFolder folder None rest files = (is_first_file (within folder (codes "edg")) files ≡ false) × (files ≡ rest)
OpensFolder folder (Some tables) rest files = (is_first_file (within folder (codes "edg")) files ≡ true) × OpensTables folder tables rest files

-- they are opened as those of some folder of this name
abbrev pub IsOpeningFolder : (folder : List ℕ) → List File → Type 0
IsOpeningFolder folder files = (tables : Option PrimitiveTables) × (rest : List File) × OpensFolder folder tables rest files

-- how many files a table is that may be absent
abbrev pub files_of_option : Option Grid → ℕ
files_of_option None = 0
files_of_option (Some grid) = files_of_grid grid

-- how many files the tables of a folder are
abbrev pub files_of_tables : PrimitiveTables → ℕ
files_of_tables t = files_of_grid t.edg + (files_of_grid t.fac + (files_of_grid t.rng + (files_of_grid t.cnd + files_of_option t.end)))

-- those of a folder that may be empty
abbrev pub files_of_folder : Option PrimitiveTables → ℕ
files_of_folder None = 0
files_of_folder (Some tables) = files_of_tables tables
