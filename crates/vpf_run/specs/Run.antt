-- What a run comes to.
use Rattle.std.specs.Prelude.{◌≡◌, ◌⊎◌, ℕ, List, Option}
use Rattle.std.specs.Io.KnownBytes.{Appends, Keeps}
use Rattle.vpf_source.specs.Files.{Files}
use Rattle.vpf_source.specs.Making.{with_all, StoppedAtOne, StoppedBetween}
use Rattle.vpf_source.specs.Writing.{AppendsPrefix}
use Rattle.vpf_run.specs.declared.status.Status.{Status}
use Rattle.vpf_run.specs.declared.status.Status.TheVariants as statuses
use Rattle.vpf_replies.specs.Answer.{Answer}
use Rattle.vpf_run.specs.Statuses.{status_of}

-- what a tree and a sink hold, as far as they tell it
pub record World : Type 0 where
  pub files : Option Files
  pub written : Option (List ℕ)

-- all files of the answer are made, and no other is changed
abbrev pub MakesAll : Answer → World → World → Type 0
MakesAll answer old new = new.files ≡ with_all answer.made old.files

-- the run stopped before its first byte was written, and of the files so much was made
abbrev pub StopsMaking : (Option Files → Option Files → Type 0) → World → World → Type 0
StopsMaking Made old new = Made old.files new.files × Keeps old.written new.written

-- all files of the answer are made, and a prefix of its text is written
abbrev pub StopsPrinting : Answer → World → World → Type 0
StopsPrinting answer old new = MakesAll answer old new × AppendsPrefix old.written new.written answer.text

-- the text of the answer is written, or a prefix of it where the sink failed or memory ran out
abbrev pub Prints : Answer → Status → Option (List ℕ) → Option (List ℕ) → Type 0
Prints answer statuses.TreeFault old new = ⊥
Prints answer statuses.SinkFault old new = AppendsPrefix old new answer.text
Prints answer statuses.NoMemory old new = AppendsPrefix old new answer.text
Prints answer status old new = (status ≡ status_of answer.verdict) × Appends old new answer.text

-- The status is that of the answer, its files are made and its text is written, as far as no fault ended the run. After a
-- fault of the tree no file is changed, or those before one of them are whole and that one holds anything, and nothing is
-- written. After one of the sink all files are made, and a prefix of the text is written. Where memory ran out, some of the
-- first files are made and nothing is written, or all are made and a prefix of the text is written.
abbrev pub Carries : Answer → Status → World → World → Type 0
Carries answer statuses.TreeFault old new = StopsMaking (λ before after. (after ≡ before) ⊎ StoppedAtOne answer.made before after) old new
Carries answer statuses.SinkFault old new = StopsPrinting answer old new
Carries answer statuses.NoMemory old new = StopsMaking (StoppedBetween answer.made) old new ⊎ StopsPrinting answer old new
Carries answer status old new = (status ≡ status_of answer.verdict) × MakesAll answer old new × Appends old.written new.written answer.text

-- the status is that of the answer, or memory ran out
abbrev pub IsCompleted : Answer → Status → Type 0
IsCompleted answer status = (status ≡ status_of answer.verdict) ⊎ (status ≡ statuses.NoMemory)
