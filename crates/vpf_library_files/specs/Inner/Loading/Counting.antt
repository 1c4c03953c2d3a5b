-- Tables that were loaded, what counting the rows of each found, and the paths that a table of tiles names.
use Rattle.std.specs.Prelude.{◌≡◌, ℕ, List, [], ◌∷◌, ◌++◌, Option, IfSome, Ok}
use Rattle.vpf_source.specs.declared.file.File.{File}
use Rattle.vpf_table.specs.Grid.{Grid}
use Rattle.vpf_table.specs.Inner.Counts.{IsCountOf}
use Rattle.vpf_table.specs.declared.counted.Counted.{Counted}
use Rattle.vpf_table.specs.Reading.{table_of}
use Rattle.vpf_library_files.specs.Loading.Holding.{AreFilesOf}
use Rattle.vpf_library_files.specs.Tileref.Stops.{path_texts}

-- the rows of the table in the first of these files were counted so
abbrev pub IsFirstCounted : List File → Counted → Type 0
IsFirstCounted [] c = ⊥
IsFirstCounted (file ∷ rest) c = IsCountOf file.bytes c

-- these files are one table, whose rows were counted so
pub record IsCountedTable (files : List File) (c : Counted) : Type 0 where
  pub name : List ℕ
  pub grid : Grid
  pub are : AreFilesOf name grid files
  pub counted : IsFirstCounted files c

-- these files are tables, one behind another, whose rows were counted so
abbrev pub AreCounted : List File → List Counted → Type 0
AreCounted files [] = files ≡ []
AreCounted files (c ∷ counts) = (here : List File) × (rest : List File) × (files ≡ here ++ rest) × IsCountedTable here c × AreCounted rest counts

-- the first of these files is a table that names these paths of tiles
abbrev pub IsFirstNamed : List File → List (List ℕ) → Type 0
IsFirstNamed [] paths = ⊥
IsFirstNamed (file ∷ rest) paths = (grid : Grid) × (table_of file.bytes ≡ Ok grid) × (paths ≡ path_texts grid)

-- these files are tables whose rows were counted so, and where the first is known as a table of tiles, it names these paths
pub record AreLoaded (files : List File) (counts : List Counted) (paths : Option (List (List ℕ))) : Type 0 where
  pub counted : AreCounted files counts
  pub named : IfSome paths (IsFirstNamed files)
