use Rattle.std.proofs.Common.{◌∙◌, ap}
use Rattle.std.specs.Prelude.{is_some}
use Rattle.vpf_head.proofs.Entries.{position_named}
use Rattle.vpf_head.proofs.reading.is_taken.Goals as goal

pub returns-clause-value : goal.returns-clause-value
returns-clause-value c = c.is_some.ensures ∙ ap is_some (c.get_index_of.ensures.index ∙ position_named c.args.name.now c.args.columns.now.entries c.requires)
