use Rattle.std.proofs.Common.{◌∙◌}
use Rattle.vpf_head.proofs.Entries.{position_named}
use Rattle.vpf_head.proofs.headers.Header.column.Goals as goal

pub returns : goal.returns
returns c = rw (← c.self.view_is) (c.get_index_of.ensures.index ∙ position_named c.args.name.now c.self.inside.columns.entries c.self.invariant.named)
