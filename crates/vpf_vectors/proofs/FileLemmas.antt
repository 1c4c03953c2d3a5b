-- The files of the grid, one after another.
use Rattle.std.proofs.Common.{◌≡◌, ℕ, List, [], ◌∷◌, ◌++◌, ap, ◌∙◌}
use Rattle.vpf_source.specs.declared.file.File.{File}
use Rattle.vpf_table.specs.Canonical.{canonical_table}
use Rattle.vpf_table.specs.Grid.{Grid}
use Rattle.vpf_vectors.specs.Library.{named_file}

-- a file holds a table
pub holds_table : (f : File) (name bytes : List ℕ) (g : Grid) → f ≡ record { name = name; bytes = bytes } → bytes ≡ canonical_table g → f ≡ named_file (name, g)
holds_table f name bytes g e h = e ∙ ap (λ (b : List ℕ). record { name = name; bytes = b }) h

-- one more file
pub one_more_file : (old new front : List File) (f g : File) → new ≡ old ++ f ∷ [] → old ≡ front → f ≡ g → new ≡ front ++ g ∷ []
one_more_file old new front f g h e i = h ∙ ap (λ (fs : List File). fs ++ f ∷ []) e ∙ ap (λ (x : File). front ++ x ∷ []) i
