use Rattle.vpf_feature_writing.proofs.KeyLemmas.{numbered_at}
use Rattle.vpf_feature_writing.proofs.keying.first_row.Goals as goal

pub returns-in-Some : goal.returns-in-Some
returns-in-Some c = numbered_at c.args.rows.now _ c.in-Some.ensures.value

pub returns-in-None : goal.returns-in-None
returns-in-None c = numbered_at c.args.rows.now _ c.in-None.ensures.value
