-- What is counted where one dart's count is set.
use Rattle.std.proofs.Common.{rules, arith}
use Rattle.vpf_follow.proofs.CountLemmas.{set_so, others_so}
use Rattle.vpf_follow.proofs.dart_places.set_count.Goals as goal

pub returns-clause-set : goal.returns-clause-set
returns-clause-set c =
    set_so c.set.result c.reach_tile.new.tiles.items c.in-Some.counts.now c.set.new.self c.args.dart c.args.count (search rules) (rw c.place_in_tile.ensures.value at c.set.ensures.set)

pub returns-clause-others : goal.returns-clause-others
returns-clause-others c d =
    others_so c.set.result c.reach_tile.new.tiles.items c.args.tiles.now.items c.in-Some.counts.now c.set.new.self c.args.dart d c.args.count (search rules)
    c.reach_tile.ensures.same (search rules) (rw c.place_in_tile.ensures.value at c.set.ensures.set)
