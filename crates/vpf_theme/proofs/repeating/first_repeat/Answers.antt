use Rattle.vpf_theme.proofs.RepeatLemmas.{are_sorted, pair_told}
use Rattle.vpf_theme.proofs.repeating.first_repeat.Goals as goal

pub returns : goal.returns
returns c =
    let es = c.args.theme.now.entries in
    let new = c.sort_placed.new.placed.items in
    let s = c.sort_placed.ensures in
    let a = are_sorted es c.in_ok-placed.placed.items new c.have_one_field.ensures c.in_ok-placed.ensures s.same s.sorted in
    let l = rw c.deref.ensures.value at c.least_pair.ensures in
    pair_told es new c.least_pair.result a l
