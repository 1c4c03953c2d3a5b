use Rattle.vpf_value.specs.Values.{view}
use Rattle.vpf_joins.proofs.keys.SearchLemmas.{bounds_rise, rows_between}
use Rattle.vpf_joins.proofs.keys.ordering.rows_of.Goals as goal

pub slice_bounds-result-count : goal.slice_bounds-result-count
slice_bounds-result-count c =
    let start = c.count_below-start in
    let end = c.count_up_to-end in
    bounds_rise (view c.args.key.now) c.args.rows.now start.result end.result start.ensures.within start.ensures.below end.ensures.up_to

pub slice_bounds-result-start : goal.slice_bounds-result-start
slice_bounds-result-start c =
    let start = c.count_below-start in
    let end = c.count_up_to-end in
    bounds_rise (view c.args.key.now) c.args.rows.now start.result end.result start.ensures.within start.ensures.below end.ensures.up_to

pub returns : goal.returns
returns c =
    let start = c.count_below-start in
    let end = c.count_up_to-end in
    rows_between c.values_are_ordered.ensures.total (view c.args.key.now) c.args.rows.now start.result end.result c.requires.key start.ensures.within end.ensures.within start.ensures.below end.ensures.up_to
