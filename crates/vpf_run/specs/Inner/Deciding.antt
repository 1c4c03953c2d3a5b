-- Words over files have one answer.
use Rattle.std.specs.Prelude.{◌≡◌, ℕ, List, Option, Some}
use Rattle.vpf_source.specs.Files.{Files, HoldsBytes}
use Rattle.vpf_run.specs.declared.command.Command.{Command}
use Rattle.vpf_replies.specs.Answer.{Answer}
use Rattle.vpf_run.specs.Commands.{IsAnswerTo, IsAnswer, command_of}

-- each command that words spell has an answer over the files of a tree, which are of bytes
abbrev pub HasAnswer : Type 0
HasAnswer = (words : List (List ℕ)) (command : Command) (files : Files) → command_of words ≡ Some command → HoldsBytes files
    → (answer : Answer) × IsAnswerTo command files answer

-- two answers to the same words over the same files are equal
abbrev pub OneAnswer : Type 0
OneAnswer = (command : Option Command) (told : Option Files) (a b : Answer) → IsAnswer command told a → IsAnswer command told b → a ≡ b
