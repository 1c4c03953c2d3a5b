use Rattle.std.proofs.Common.{ℕ, ◌+◌, List, ◌∙◌, ap, length, map}
use Rattle.std.specs.List.{range_with_len}
use Rattle.std.proofs.lemmas.List.{length-map}
use Rattle.vpf_cutting.proofs.copies.StartLemmas.{starts_are}
use Rattle.vpf_cutting.proofs.copies.SortLemmas.{lists_are}
use Rattle.vpf_cutting.proofs.copies.PairLemmas.{below_count}
use Rattle.vpf_cutting.proofs.copies.lists.Lists.of.Goals as goal

pub invariant_of-result : goal.invariant_of-result
invariant_of-result c = starts_are (c.args.count + 2) c.sort.new.pairs.items c.in_ok-starts.starts.items c.in_ok-all.all.items (c.in_ok-starts.ensures ∙ ap (λ us. map (λ k. below_count k us) (range_with_len 0 (c.args.count + 2))) c.deref.ensures.value) (ap (λ (xs : List ℕ). length xs) (c.in_ok-all.ensures ∙ ap (λ us. map (λ (p : ℕ × ℕ). p.1) us) c.deref-2.ensures.value) ∙ length-map c.sort.new.pairs.items (λ (p : ℕ × ℕ). p.1))

pub returns : goal.returns
returns c most w = lists_are c.args.count most c.args.pairs.items c.sort.new.pairs.items c.in_ok-starts.starts.items c.in_ok-all.all.items c.sort.ensures.rises c.sort.ensures.same w (c.in_ok-starts.ensures ∙ ap (λ us. map (λ k. below_count k us) (range_with_len 0 (c.args.count + 2))) c.deref.ensures.value) (c.in_ok-all.ensures ∙ ap (λ us. map (λ (p : ℕ × ℕ). p.1) us) c.deref-2.ensures.value)
