-- First places, when a dart is put.
use Rattle.std.proofs.Common.{◌+◌, arith}
use Rattle.vpf_follow.proofs.CountLemmas.{put_first, put_again}
use Rattle.vpf_follow.proofs.dart_places.DartPlaces.put.Goals as goal
use Rattle.vpf_follow.proofs.dart_places.DartPlaces.put.Goals.{then-is_none+in_ok-set_count, else-is_none}

pub invariant_of-self-2 : goal.invariant_of-self-2
invariant_of-self-2 c =
    let more = c.push.new.self.items in
    elim c.if-is_none.branch [
      | then-is_none+in_ok-set_count w ↦
          rw w.self-inside-is (put_first c.self.inside.darts.items c.reserve.new.self.items more c.self.inside.firsts.items w.set_count.new.tiles.items c.args.dart c.first-first.result (w.len.result + 1) c.self.invariant (rw c.self.view_is c.first-first.ensures.first) w.if-is_none.ensures (omega (arith, w.len.ensures, c.in_ok-reserve.ensures.items)) c.in_ok-reserve.ensures.items (rw w.self-inside-is at c.in_ok-push.ensures.items) w.in_ok-set_count.ensures.set w.in_ok-set_count.ensures.others)
      | else-is_none w ↦
          rw w.self-inside-is (put_again c.self.inside.darts.items c.reserve.new.self.items more c.self.inside.firsts.items c.args.dart c.first-first.result c.self.invariant (rw c.self.view_is c.first-first.ensures.first) w.if-is_none.ensures c.in_ok-reserve.ensures.items (rw w.self-inside-is at c.in_ok-push.ensures.items))
    ]
