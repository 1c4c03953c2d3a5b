-- The tables of a folder are there where the first file has the name of one.
use Rattle.std.proofs.Common.{◌≡◌, ℕ, true, List, Option, Some, None, refl}
use Rattle.std.specs.Prelude.{codes}
use Rattle.vpf_base.proofs.Booleans.{clash}
use Rattle.vpf_source.specs.declared.file.File.{File}
use Rattle.vpf_table.specs.Grid.{Grid}
use Rattle.vpf_prims.specs.Reading.{PrimitiveTables}
use Rattle.vpf_library_files.specs.Loading.Loading.{within}
use Rattle.vpf_coverage.specs.Inner.Opening.Opens.{Opens, OpensEnd, OpensFolder, OpensTables, is_first_file}

pub some_end : (folder : List ℕ) (end : Option Grid) (rest files : List File) → is_first_file (within folder (codes "end")) files ≡ true → OpensEnd folder end rest files
    → (grid : Grid) × (end ≡ Some grid) × Opens grid rest files
some_end folder None rest files there h = absurd (clash _ there h.0)
some_end folder (Some grid) rest files there h = (grid, refl, h.1)

pub some_folder : (folder : List ℕ) (tables : Option PrimitiveTables) (rest files : List File) → is_first_file (within folder (codes "edg")) files ≡ true
    → OpensFolder folder tables rest files → (t : PrimitiveTables) × (tables ≡ Some t) × OpensTables folder t rest files
some_folder folder None rest files there h = absurd (clash _ there h.0)
some_folder folder (Some tables) rest files there h = (tables, refl, h.1)
