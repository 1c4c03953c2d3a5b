use Rattle.std.proofs.Common.{◌∙◌}
use Rattle.indexmap.specs.IndexMap.{values}
use Rattle.vpf_head.proofs.Entries.{any_varies}
use Rattle.vpf_head.proofs.headers.Header.varies.Goals as goal

pub returns : goal.returns
returns c = rw (← c.self.view_is) (c.varies.ensures ∙ any_varies (values c.self.inside.columns))
