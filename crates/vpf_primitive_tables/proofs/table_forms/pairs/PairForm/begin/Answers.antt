use Rattle.std.proofs.Common.{◌≡◌, ◌∙◌, IfOk, ap, subst}
use Rattle.vpf_head.specs.Head.{Head}
use Rattle.vpf_primitive_tables.specs.TableForms.Forms.{pair_kinds, head_like}
use Rattle.vpf_primitive_tables.specs.Inner.TableForms.Models.{PairsLike}
use Rattle.vpf_primitive_tables.proofs.table_forms.pairs.PairForm.begin.Goals as goal

pub returns-clause-head : goal.returns-clause-head
returns-clause-head c =
    subst (λ (h : Head). IfOk c.new.result (λ made. made.head ≡ h))
    (c.self.invariant.header ∙ ap (λ (l : PairsLike). head_like l.table (pair_kinds l.name)) c.self.view_is) c.new.ensures.head
