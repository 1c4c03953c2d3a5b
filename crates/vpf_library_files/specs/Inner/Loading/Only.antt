-- What a call that loads files leaves of a tree, and of the count of the bytes that were read.
use Rattle.std.specs.Prelude.{◌≡◌, ◌≤◌, ℕ, Option}
use Rattle.vpf_source.specs.Causes.{Rose, Stood}
use Rattle.vpf_source.specs.Files.{Files}
use Rattle.vpf_library_files.specs.Loading.Loading.{most_loaded}

-- the files are as they were, the faults rose exactly where the call failed, and no bytes are taken from the count, nor are there too many
pub record OnlyLoads {S : Type 0} (told : S → Option Files) (faults : S → ℕ) (old new : S) (before after : ℕ) (failed : Type 0) : Type 0 where
  pub files : told new ≡ told old
  pub later : faults old ≤ faults new
  pub fault : failed → Rose (faults old) (faults new)
  pub stood : ¬ failed → Stood (faults old) (faults new)
  pub rising : before ≤ after
  pub most : after ≤ most_loaded
