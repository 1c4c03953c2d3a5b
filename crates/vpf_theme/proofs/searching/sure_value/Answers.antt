use Rattle.vpf_theme.proofs.FaultLemmas.{whole_from}
use Rattle.vpf_theme.proofs.searching.sure_value.Goals as goal

pub value_at-requires-clause-whole : goal.value_at-requires-clause-whole
value_at-requires-clause-whole c = whole_from c.args.layout.now c.args.bytes.now c.args.i c.requires.faultless c.requires.within
