-- A table that a tree holds is read where it may be absent.
use Rattle.std.proofs.Common.{◌≡◌, ℕ, ◌+◌, ◌≤◌, List, length, Some, Ok, refl}
use Rattle.vpf_base.specs.Limits.{most_bytes}
use Rattle.vpf_source.specs.Files.{Files}
use Rattle.vpf_source.specs.declared.file.File.{File}
use Rattle.vpf_table.specs.Grid.{Grid}
use Rattle.vpf_library_files.specs.Loading.Holding.{AreFilesOf, AreHeld, bytes_in}
use Rattle.vpf_library_files.specs.Loading.Loading.{most_loaded, read_optional, read_optional_table}
use Rattle.vpf_library_files.specs.Inner.Loading.HeldLaws.{SpelledAreOpened, held_is_loaded, loads_either, loads_within, table_of_grid}

-- a file that is held is read
pub file_held : (held : Files) (name bytes : List ℕ) (m : ℕ) → held name ≡ Some bytes → length bytes ≤ most_bytes → m + length bytes ≤ most_loaded
    → read_optional held name m ≡ (Ok (Some bytes), m + length bytes)
file_held held name bytes m e few sum = rw (e, loads_within name bytes m few sum) refl

pub table_held : SpelledAreOpened → (held : Files) (name : List ℕ) (grid : Grid) (files : List File) (m : ℕ) → AreFilesOf name grid files → AreHeld held files
    → m + bytes_in files ≤ most_loaded → read_optional_table held name m ≡ (Ok (Some (table_of_grid grid files)), m + bytes_in files)
table_held laws held name grid files m are there few =
    loads_either held name (read_optional held name m) (table_of_grid grid files) (m + bytes_in files) (held_is_loaded laws held name grid files m are there few)
