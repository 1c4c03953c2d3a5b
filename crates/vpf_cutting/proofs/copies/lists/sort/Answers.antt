use Rattle.std.proofs.Common.{◌∙◌, ap, sym}
use Rattle.std.proofs.lemmas.List.Filters.{dedup_is}
use Rattle.std.proofs.lemmas.List.Kept.{IsStrictlySortedBy-dedup}
use Rattle.std.proofs.lemmas.List.Sorted.{list_any-IsPermutation}
use Rattle.vpf_cutting.specs.Inner.Copies.Lists.{is_pair, is_paired}
use Rattle.vpf_cutting.proofs.copies.SortLemmas.{pairs_total, paired-dedup, same_pair_ties}
use Rattle.vpf_cutting.proofs.copies.lists.sort.Goals as goal

pub returns-clause-rises : goal.returns-clause-rises
returns-clause-rises c = rw (dedup_is _ _ _ c.dedup.ensures.filtered) (IsStrictlySortedBy-dedup pairs_total same_pair_ties _ c.sort_unstable.ensures.sorted)

pub returns-clause-same : goal.returns-clause-same
returns-clause-same c k i =
    let is = dedup_is _ _ _ c.dedup.ensures.filtered in
    ap (λ xs. is_paired xs k i) is ∙ paired-dedup c.sort_unstable.new.self.items k i ∙ sym (list_any-IsPermutation (is_pair k i) _ _ c.sort_unstable.ensures.permutation)
