use Rattle.std.proofs.Common.{◌∙◌, ap}
use Rattle.vpf_primitive_tables.specs.TableForms.Forms.{pair_kinds, head_like}
use Rattle.vpf_primitive_tables.specs.Inner.TableForms.Models.{PairsLike}
use Rattle.vpf_primitive_tables.proofs.table_forms.pairs.PairForm.header.Goals as goal

pub returns : goal.returns
returns c = c.self.invariant.header ∙ ap (λ (l : PairsLike). head_like l.table (pair_kinds l.name)) c.self.view_is
