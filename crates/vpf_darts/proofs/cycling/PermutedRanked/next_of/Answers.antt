use Rattle.std.proofs.Common.{◌≡◌, ◌-◌, ◌+◌, ◌<◌, suc, length, sym, ap, ◌∙◌, arith}
use Rattle.vpf_darts.proofs.NextLemmas.{next_at, next_in}
use Rattle.vpf_darts.proofs.cycling.PermutedRanked.next_of.Goals as goal

pub returns-else-rank-lt-FIRST : goal.returns-else-rank-lt-FIRST
returns-else-rank-lt-FIRST c =
    let next = c.args.self.now.next.now in
    let below : c.args.rank < length next + 2 = c.requires in
    let e : suc (suc (c.args.rank - 2)) ≡ c.args.rank = omega arith in
    c.number.ensures ∙ sym (next_at next (c.args.rank - 2) (omega arith)) ∙ ap (next_in next) e
