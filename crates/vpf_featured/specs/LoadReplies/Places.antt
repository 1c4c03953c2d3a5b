-- The names of files by their places.
use Rattle.std.specs.Prelude.{ℕ, List, [], slice_index_or}
use Rattle.vpf_source.specs.declared.file.File.{File}
use Rattle.vpf_library_files.specs.Loading.Loading.{loaded_file}

-- the name of the file at a place among those that were read, from 0
abbrev pub place_name : List File → ℕ → List ℕ
place_name files k = (slice_index_or files k (loaded_file [] [])).name
