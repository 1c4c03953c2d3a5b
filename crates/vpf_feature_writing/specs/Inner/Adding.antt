-- What a call that makes files behind others answers.
use Rattle.std.specs.Prelude.{List, Result}
use Rattle.vpf_base.specs.Results.{Meets}
use Rattle.vpf_source.specs.declared.file.File.{File}
use Rattle.vpf_library_files.specs.declared.table_files.errors.AddError.{AddError}
use Rattle.vpf_library_files.specs.TableFiles.Adding.{error_seen}
use Rattle.vpf_feature_writing.specs.Making.{Made, then_files}

-- the files that are made stand behind some files, or this is the first limit that one passes; of want of memory nothing is said
abbrev pub AddsMade : {V : Type 0} → Made → (old new : List File) → Result V AddError → Type 0
AddsMade made old new result = Meets (λ v. new) error_seen result (then_files old made)
