use Rattle.std.proofs.Common.{subst, sym}
use Rattle.vpf_head.specs.Head.{Head}
use Rattle.vpf_write.specs.Inner.Tallies.{Holds}
use Rattle.vpf_write.specs.Writing.{Writes}
use Rattle.vpf_primitive_tables.specs.TableForms.Forms.{ring_kinds, table_like}
use Rattle.vpf_primitive_tables.specs.Inner.TableForms.Models.{RingsPut}
use Rattle.vpf_primitive_tables.proofs.table_forms.rings.RingTable.finish.Goals as goal

pub returns : goal.returns
returns c = λ rows h.
    let held = subst (λ (p : RingsPut). Holds p.tally rows) (sym c.self.view_is) h in
    subst (λ (p : RingsPut). Writes (table_like p.like ring_kinds rows) c.finish.result) c.self.view_is
    (subst (λ (head : Head). Writes (record { head = head; rows = rows }) c.finish.result) c.self.invariant.head (c.finish.ensures.written rows held))
