use Rattle.std.proofs.Common.{◌≡◌, IsTrue, length, rules}
use Rattle.vpf_darts.specs.MapLists.{IsInRange}
use Rattle.vpf_darts.proofs.ReadLemmas.{has_read}
use Rattle.vpf_darts.proofs.maps.Map.has.Goals as goal

pub returns : goal.returns
returns c =
    let i = c.self.inside in
    let len : c.len.result ≡ length i.next.items = search rules in
    let there : IsTrue c.is_in_range.result → IsInRange (length i.next.items) c.args.dart = rw len at c.is_in_range.ensures.0 in
    let back : IsInRange (length i.next.items) c.args.dart → IsTrue c.is_in_range.result = rw len at c.is_in_range.ensures.1 in
    rw (← c.self.view_is) (has_read i.next.items (length i.live.items) c.args.dart c.is_in_range.result c.self.invariant.0.darts there back)
