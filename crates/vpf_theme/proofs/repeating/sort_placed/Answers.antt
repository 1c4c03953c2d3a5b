use Rattle.std.proofs.Common.{rules}
use Rattle.std.specs.Ordering.{is_lt}
use Rattle.std.proofs.lemmas.List.MinMax.{ranks_by}
use Rattle.std.proofs.lemmas.List.Sorted.{answers_always}
use Rattle.vpf_theme.specs.declared.repeating.PlacedCell.{PlacedCell}
use Rattle.vpf_theme.specs.Inner.Repeating.{placed_cmp}
use Rattle.vpf_theme.proofs.RepeatLemmas.{placed_total}
use Rattle.vpf_theme.proofs.repeating.sort_placed.Goals as goal

pub returns-clause-sorted : goal.returns-clause-sorted
returns-clause-sorted c = c.sort_unstable_by.ensures.sorted (λ a b. is_lt (placed_cmp a b)) (ranks_by placed_total (λ (p : PlacedCell). p)) (answers_always _ _ _ (λ f a r f' q. search rules))
