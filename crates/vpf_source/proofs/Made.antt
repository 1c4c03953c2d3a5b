-- Files that are made.
use Rattle.std.proofs.Common.{◌≡◌, ℕ, List, [], ◌∷◌, ◌++◌, Option, Some, refl, sym, subst, inl, inr}
use Rattle.vpf_source.specs.declared.file.File.{File}
use Rattle.vpf_source.specs.Files.{Files, with_file, SameElsewhere}
use Rattle.vpf_source.specs.Inner.Halves.{MayHold}
use Rattle.vpf_source.specs.Making.{with_all}

made_elsewhere : (old : Files) (new : Option Files) (name bytes : List ℕ) → new ≡ with_file (Some old) name bytes → SameElsewhere (Some old) new name
made_elsewhere old new name bytes e = subst (λ t. SameElsewhere (Some old) t name) (sym e) (λ other ne. rw ne refl)

kept_elsewhere : (old : Files) (new : Option Files) (name : List ℕ) → new ≡ Some old → SameElsewhere (Some old) new name
kept_elsewhere old new name e = subst (λ t. SameElsewhere (Some old) t name) (sym e) (λ other ne. refl)

pub half_elsewhere : (old new : Files) (name bytes : List ℕ) → MayHold old new name bytes → SameElsewhere (Some old) (Some new) name
half_elsewhere old new name bytes (inl e) = made_elsewhere old (Some new) name bytes e
half_elsewhere old new name bytes (inr e) = kept_elsewhere old (Some new) name e

pub with_all-push : (files : List File) (file : File) (told : Option Files) → with_all (files ++ file ∷ []) told ≡ with_file (with_all files told) file.name file.bytes
with_all-push [] file told = refl
with_all-push (f ∷ fs) file told = with_all-push fs file (with_file told f.name f.bytes)
