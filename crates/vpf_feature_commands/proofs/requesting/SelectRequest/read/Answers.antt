use Rattle.std.proofs.Common.{string_bytes, rules}
use Rattle.vpf_feature_commands.proofs.SelectAnswers.{few_words, many_words}
use Rattle.vpf_feature_commands.proofs.requesting.SelectRequest.read.Goals.{in_default-via-then-words-lt5, in_default-via-else-words-lt5+else-words-lt6}
use Rattle.vpf_feature_commands.proofs.requesting.SelectRequest.read.Goals as goal

pub returns-in_default : goal.returns-in_default
returns-in_default c = elim c.in_default.branch [ in_default-via-then-words-lt5 w ↦ few_words string_bytes c.args.words.now (search rules) | in_default-via-else-words-lt5+else-words-lt6 w ↦ many_words string_bytes c.args.words.now (search rules) ]
