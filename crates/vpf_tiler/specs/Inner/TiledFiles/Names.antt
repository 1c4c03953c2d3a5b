-- What is so of the names of the files of every tiled library.
use Rattle.std.specs.Prelude.{◌≢◌, ℕ, AllPairs, IsUtf8, List, map}
use Rattle.vpf_source.specs.declared.file.File.{File}
use Rattle.vpf_table.specs.Grid.{Grid}
use Rattle.vpf_prims.specs.Primitives.{Primitives}
use Rattle.vpf_prims.specs.Reading.{PrimitiveTables}
use Rattle.vpf_library_files.specs.Tileref.Tileref.{IsTileref}
use Rattle.vpf_library_files.specs.Loading.Loading.{within}
use Rattle.vpf_library_files.specs.TableFiles.Adding.{files_made}
use Rattle.vpf_tiler.specs.TileFiles.Tables.{library_tables}

-- a file under its name within a folder
abbrev pub file_in : (folder : List ℕ) → File → File
file_in folder file = record { name = within folder file.name; bytes = file.bytes }

-- no two files of a tiled library have one name, where the name of the coverage is text
abbrev pub NamesDiffer : Type 0
NamesDiffer = (cov : List ℕ) (T : PrimitiveTables) (c : Primitives) (plan : ℕ → ℕ) (tileref : Grid) → IsUtf8 cov → IsTileref tileref
    → AllPairs (λ a b. a.name ≢ b.name) (files_made (library_tables cov T c plan tileref))

-- nor have two of them within a folder
abbrev pub NamesDifferWithin : Type 0
NamesDifferWithin = (out cov : List ℕ) (T : PrimitiveTables) (c : Primitives) (plan : ℕ → ℕ) (tileref : Grid) → IsUtf8 cov → IsTileref tileref
    → AllPairs (λ a b. a.name ≢ b.name) (map (file_in out) (files_made (library_tables cov T c plan tileref)))
