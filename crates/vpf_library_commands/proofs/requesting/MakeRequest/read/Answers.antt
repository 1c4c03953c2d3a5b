use Rattle.std.proofs.Common.{string_bytes, rules}
use Rattle.vpf_library_commands.proofs.TileAnswers.{few_words, many_words}
use Rattle.vpf_library_commands.proofs.requesting.MakeRequest.read.Goals.{in_default-via-then-words-lt3, in_default-via-else-words-lt3+else-words-lt4}
use Rattle.vpf_library_commands.proofs.requesting.MakeRequest.read.Goals as goal

pub returns-in_default : goal.returns-in_default
returns-in_default c = elim c.in_default.branch [ in_default-via-then-words-lt3 w ↦ few_words string_bytes c.args.words.now (search rules) | in_default-via-else-words-lt3+else-words-lt4 w ↦ many_words string_bytes c.args.words.now (search rules) ]
