-- What is answered where nothing stops a run.
use Rattle.std.specs.Prelude.{ℕ, List, []}
use Rattle.vpf_source.specs.declared.file.File.{File}
use Rattle.vpf_replies.specs.declared.verdict.Verdict.{Verdict}
use Rattle.vpf_replies.specs.declared.verdict.Verdict.TheVariants.{Done, Refused, Usage, Limit}
use Rattle.vpf_replies.specs.Texts.{usage_text}

-- how the run ends, all that it prints, and the files that it makes, in their order
pub record Answer : Type 0 where
  pub verdict : Verdict
  pub text : List ℕ
  pub made : List File

abbrev pub done : List ℕ → Answer
done text = record { verdict = Done; text = text; made = [] }

abbrev pub refused : List ℕ → Answer
refused text = record { verdict = Refused; text = text; made = [] }

abbrev pub limited : List ℕ → Answer
limited text = record { verdict = Limit; text = text; made = [] }

-- the answer to words that are no command
abbrev pub usage_answer : Answer
usage_answer = record { verdict = Usage; text = usage_text; made = [] }

-- what is done by making files
abbrev pub making : List ℕ → List File → Answer
making text files = record { verdict = Done; text = text; made = files }
