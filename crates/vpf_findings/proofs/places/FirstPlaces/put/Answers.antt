use Rattle.std.proofs.Common.{◌≡◌, arith}
use Rattle.std.specs.Prelude.{position}
use Rattle.vpf_findings.proofs.PlaceLemmas.{new_put, old_put}
use Rattle.vpf_findings.proofs.places.FirstPlaces.put.Goals as goal
use Rattle.vpf_findings.proofs.places.FirstPlaces.put.Goals.{then-is_none+in_ok-insert, else-is_none}

pub invariant_of-self-2 : goal.invariant_of-self-2
invariant_of-self-2 g c =
    let eq = g.K.PartialEq.eq in
    let keys = c.self.inside.keys.items in
    let more = c.push.new.self.items in
    let first : c.first-first.result ≡ position (g.K.PartialEq.eq c.args.key) c.self.inside.keys.items = rw c.self.view_is c.first-first.ensures.first in
    elim c.if-is_none.branch [
      | then-is_none+in_ok-insert w ↦
          rw w.self-inside-is (new_put eq keys c.reserve.new.self.items more c.self.inside.firsts w.insert.new.self c.args.key c.first-first.result _ g.met.K.Eq.laws c.self.invariant first w.if-is_none.ensures (omega arith) c.in_ok-reserve.ensures.items (rw w.self-inside-is at c.in_ok-push.ensures.items) w.in_ok-insert.ensures.updates.0)
      | else-is_none w ↦
          rw w.self-inside-is (old_put eq keys c.reserve.new.self.items more c.self.inside.firsts c.args.key c.first-first.result g.met.K.Eq.laws c.self.invariant first w.if-is_none.ensures c.in_ok-reserve.ensures.items (rw w.self-inside-is at c.in_ok-push.ensures.items))
    ]
