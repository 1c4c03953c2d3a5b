use Rattle.std.proofs.Common.{refl}
use Rattle.vpf_head.specs.Inner.Views.{header_parts}
use Rattle.vpf_head.proofs.Entries.{copies_same}
use Rattle.vpf_head.proofs.SoundLaws.{in_order}
use Rattle.vpf_head.proofs.headers.Header.with_order.Goals as goal

pub invariant_of-result : goal.invariant_of-result
invariant_of-result c =
    let same = copies_same c.self.inside.columns.entries c.in_ok-columns.columns.entries c.in_ok-columns.ensures.cases in
    record { named = rw same c.self.invariant.named; sound = rw same (in_order (header_parts c.self.inside) c.args.order c.self.invariant.sound) }

pub returns : goal.returns
returns c =
    let same = copies_same c.self.inside.columns.entries c.in_ok-columns.columns.entries c.in_ok-columns.ensures.cases in
    rw (same, ← c.self.view_is) refl
