-- Files made one after another.
use Rattle.std.specs.Prelude.{◌≡◌, ℕ, List, [], ◌∷◌, take, slice_get, Option, Some}
use Rattle.vpf_source.specs.declared.file.File.{File}
use Rattle.vpf_source.specs.Files.{Files, with_file, SameElsewhere}

-- the files of a tree once these are made, in their order
abbrev pub with_all : List File → Option Files → Option Files
with_all [] told = told
with_all (file ∷ files) told = with_all files (with_file told file.name file.bytes)

-- the files before one of the list are made whole, that one holds anything or is absent, and no other file is changed
pub record StoppedAtOne (files : List File) (old new : Option Files) : Type 0 where
  pub count : ℕ
  pub file : File
  pub there : slice_get files count ≡ Some file
  pub others : SameElsewhere (with_all (take count files) old) new file.name

-- some of the first files are made whole, and no other file is changed
pub record StoppedBetween (files : List File) (old new : Option Files) : Type 0 where
  pub count : ℕ
  pub made : new ≡ with_all (take count files) old
