use Rattle.std.proofs.Common.{rules, arith}
use Rattle.std.proofs.lemmas.Grind.{common_steps}
use Rattle.std.proofs.lemmas.List.MinMax.{ranks_by}
use Rattle.std.proofs.lemmas.List.Sorted.{answers_always}
use Rattle.vpf_value.specs.Values.{view}
use Rattle.vpf_theme_build.specs.declared.grouping.Spot.{Spot}
use Rattle.vpf_theme_build.specs.Grouping.{is_below}
use Rattle.vpf_theme_build.proofs.grouping.sort_spots.Goals as goal

pub returns : goal.returns
returns c =
    let order = ranks_by c.values_are_ordered.ensures.total (λ (s : Spot). view s.cell) in
    let e = c.in_ok-sort_by.ensures in
    record {
      same = e.permutation;
      len = grind (arith, common_steps);
      sorted = e.sorted is_below order (answers_always _ _ _ (λ f a r f' q. search rules));
      stable = e.stable is_below order (answers_always _ _ _ (λ f a r f' q. search rules));
    }
