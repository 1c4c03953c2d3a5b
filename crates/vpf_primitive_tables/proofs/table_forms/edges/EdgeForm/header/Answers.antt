use Rattle.std.proofs.Common.{◌∙◌, ap}
use Rattle.vpf_primitive_tables.specs.TableForms.Forms.{edge_kinds_of, head_like}
use Rattle.vpf_primitive_tables.specs.Inner.TableForms.Models.{EdgesLike}
use Rattle.vpf_primitive_tables.proofs.table_forms.edges.EdgeForm.header.Goals as goal

pub returns : goal.returns
returns c = c.self.invariant.header ∙ ap (λ (l : EdgesLike). head_like l.table (edge_kinds_of l.references)) c.self.view_is
