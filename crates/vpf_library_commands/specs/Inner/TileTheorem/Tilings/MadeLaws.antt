-- Files that are made in a folder without files: the folder holds exactly these.
use Rattle.std.proofs.Common.{[], ◌≡◌, ℕ, ◌+◌, List, ◌∷◌, map, length, refl, ap}
use Rattle.vpf_source.specs.declared.file.File.{File}
use Rattle.vpf_library_files.specs.Loading.Holding.{bytes_in}
use Rattle.vpf_library_commands.specs.Made.{file_within}

pub bytes_within : (folder : List ℕ) (files : List File) → bytes_in (map (file_within folder) files) ≡ bytes_in files
bytes_within folder [] = refl
bytes_within folder (file ∷ files) = ap (λ n. length file.bytes + n) (bytes_within folder files)
