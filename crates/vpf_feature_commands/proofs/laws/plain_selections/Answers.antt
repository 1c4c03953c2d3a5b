use Rattle.vpf_featured.specs.Reading.{read_featured}
use Rattle.vpf_feature_commands.proofs.PlainLemmas.{plain_same}
use Rattle.vpf_feature_commands.proofs.laws.plain_selections.Goals as goal

pub returns : goal.returns
returns c files request serve = plain_same c.indexes_serve.ensures request (read_featured files request.lib request.cov 0).0 serve
