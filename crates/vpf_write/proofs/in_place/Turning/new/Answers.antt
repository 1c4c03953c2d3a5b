use Rattle.std.proofs.Common.{refl, sym}
use denote.Enum.Bare.{same_false}
use Rattle.vpf_base.specs.contracts.orders.Order.{the_type}
use Rattle.vpf_write.proofs.in_place.Turning.new.Goals as goal

pub under-requires-clause-head : goal.under-requires-clause-head
under-requires-clause-head c = let head = rw c.header-2.ensures at c.in_ok-header.ensures in rw head refl

pub under-requires-clause-other : goal.under-requires-clause-other
under-requires-clause-other c =
    let head = rw c.header-2.ensures at c.in_ok-header.ensures in
    rw head (λ e. same_false the_type _ _ (sym c.if-eq.ensures) (cc (e, c.order.ensures, c.header.ensures)))
