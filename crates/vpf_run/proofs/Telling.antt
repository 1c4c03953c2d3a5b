-- Whether a tree tells its files is not changed by making some.
use Rattle.std.proofs.Common.{◌≡◌, ℕ, List, [], ◌∷◌, Option, None, Some, take, refl, ap, ◌∙◌}
use Rattle.std.specs.Prelude.{is_some}
use Rattle.vpf_source.specs.declared.file.File.{File}
use Rattle.vpf_source.specs.Files.{Files, with_file, SameElsewhere}
use Rattle.vpf_source.specs.Making.{with_all, StoppedAtOne, StoppedBetween}

with_file_tells : (told : Option Files) (name bytes : List ℕ) → is_some (with_file told name bytes) ≡ is_some told
with_file_tells None name bytes = refl
with_file_tells (Some files) name bytes = refl

with_all_tells : (files : List File) (told : Option Files) → is_some (with_all files told) ≡ is_some told
with_all_tells [] told = refl
with_all_tells (file ∷ files) told = with_all_tells files (with_file told file.name file.bytes) ∙ with_file_tells told file.name file.bytes

elsewhere_tells : (old new : Option Files) (name : List ℕ) → SameElsewhere old new name → is_some new ≡ is_some old
elsewhere_tells None None name h = refl
elsewhere_tells None (Some new) name h = absurd h
elsewhere_tells (Some old) None name h = absurd h
elsewhere_tells (Some old) (Some new) name h = refl

pub all_tells : (files : List File) (old new : Option Files) → new ≡ with_all files old → is_some new ≡ is_some old
all_tells files old new e = ap is_some e ∙ with_all_tells files old

pub one_tells : (files : List File) (old new : Option Files) → StoppedAtOne files old new → is_some new ≡ is_some old
one_tells files old new h = elsewhere_tells (with_all (take h.count files) old) new h.file.name h.others ∙ with_all_tells (take h.count files) old

pub between_tells : (files : List File) (old new : Option Files) → StoppedBetween files old new → is_some new ≡ is_some old
between_tells files old new h = all_tells (take h.count files) old new h.made
