use Rattle.std.proofs.Common.{rules, ◌≡◌, ◌∷◌}
use Rattle.vpf_coverage.proofs.opening.CountLemmas.{others_counted}
use Rattle.vpf_coverage.proofs.opening.tables.next_count.Goals as goal

pub returns-in-Some-split_first-clause-others : goal.returns-in-Some-split_first-clause-others
returns-in-Some-split_first-clause-others c grid rest files opens h =
    let all = c.in-Some.all.now in
    let first = c.in-Some-split_first.first.now in
    let others = c.in-Some-split_first.others.now in
    let whole : all ≡ first ∷ others = search rules in
    others_counted c.spelled_is_opened.ensures c.opened_is_read.ensures grid rest files first others opens (rw whole at (rw c.in-Some.is at h))
