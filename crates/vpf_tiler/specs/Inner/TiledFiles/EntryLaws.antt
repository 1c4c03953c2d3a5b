-- No two files of a tiled library have one name.
use Rattle.std.proofs.Common.{[], ◌≡◌, ℕ, List, ◌∷◌, ◌++◌}
use Rattle.vpf_source.specs.Names.Indexes.{without_last}
use Rattle.vpf_library_files.specs.Loading.Loading.{within}
use Rattle.vpf_library_files.specs.TableFiles.Adding.{NamedTable}

-- the letters of a table before the last
abbrev pub HasStem : (folder : List ℕ) → (a b : ℕ) → NamedTable → Type 0
HasStem folder a b table = without_last table.name ≡ within folder [] ++ a ∷ b ∷ []
