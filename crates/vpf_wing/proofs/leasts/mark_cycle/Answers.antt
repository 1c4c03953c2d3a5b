use Rattle.std.proofs.Common.{◌≡◌, ◌<◌, length, get_or, ◌∙◌, arith}
use Rattle.vpf_wing.specs.Inner.NextPlaces.{next_in}
use Rattle.vpf_wing.proofs.MarkLemmas.{IsWalked-more, MarksCycle-from_walked, any_default}
use Rattle.vpf_wing.proofs.leasts.mark_cycle.Goals as goal

pub loop-leasts-preserved : goal.loop-leasts-preserved
loop-leasts-preserved c =
    let w = c.loop-leasts.invariant in
    let n = length c.args.nexts.now in
    let here : c.loop-leasts.at < length c.args.nexts.now = w.here in
    let len : length c.loop-leasts.leasts ≡ length c.args.nexts.now = omega arith in
    let now : get_or c.loop-leasts.leasts c.loop-leasts.at n ≡ n =
    any_default c.loop-leasts.leasts c.loop-leasts.at n 0 (omega arith) ∙ c.loop-leasts-test.true in
    let same : get_or c.args.nexts.now c.loop-leasts.at 0 ≡ next_in c.args.nexts.now c.loop-leasts.at =
    any_default c.args.nexts.now c.loop-leasts.at 0 c.loop-leasts.at here in
    rw same (IsWalked-more (next_in c.args.nexts.now) n c.args.start c.args.leasts.now c.loop-leasts.leasts c.loop-leasts.at c.requires.below c.requires.agree len c.requires.inside now w)

pub returns : goal.returns
returns c =
    let w = c.loop-leasts.invariant in
    let n = length c.args.nexts.now in
    let here : c.loop-leasts.at < length c.args.nexts.now = w.here in
    MarksCycle-from_walked (next_in c.args.nexts.now) n c.args.start c.args.leasts.now c.loop-leasts.leasts c.loop-leasts.at c.requires.apart (λ e. c.loop-leasts-test.false (any_default c.loop-leasts.leasts c.loop-leasts.at 0 n (omega arith) ∙ e)) w
