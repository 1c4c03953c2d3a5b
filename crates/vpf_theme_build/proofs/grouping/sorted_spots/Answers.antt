use Rattle.std.proofs.Common.{◌∙◌}
use Rattle.std.proofs.lemmas.List.Sorted.{All-permutation}
use Rattle.vpf_value.specs.Values.{view}
use Rattle.vpf_value.specs.Inner.Fitting.{FitsCell}
use Rattle.vpf_theme.specs.Findings.{cells_of}
use Rattle.vpf_theme_build.specs.declared.grouping.Spot.{Spot}
use Rattle.vpf_theme_build.proofs.FieldLemmas.{one_field, length-spots}
use Rattle.vpf_theme_build.proofs.SortLemmas.{sorted_entries}
use Rattle.vpf_theme_build.proofs.grouping.sorted_spots.Goals as goal

pub returns-clause-entries : goal.returns-clause-entries
returns-clause-entries c =
    let grid = c.args.table.now in
    let old = c.in_ok-spots.spots.items in
    let e = c.in_ok-spots.ensures in
    let field = one_field grid c.args.column old c.requires.column c.requires.indexed e.fits e.spots c.values_are_ordered.ensures.equal in
    sorted_entries c.values_are_ordered.ensures.total (cells_of grid c.args.column) field old c.sort_spots.new.spots.items e.spots c.in_ok-sort_spots.ensures

pub returns-clause-fits : goal.returns-clause-fits
returns-clause-fits c = λ column is. All-permutation (λ (s : Spot). FitsCell column.kind column.count (view s.cell)) c.in_ok-spots.spots.items c.sort_spots.new.spots.items c.in_ok-sort_spots.ensures.same (c.in_ok-spots.ensures.fits column is)

pub returns-clause-len : goal.returns-clause-len
returns-clause-len c = c.in_ok-sort_spots.ensures.len ∙ length-spots c.args.table.now c.args.column c.in_ok-spots.spots.items c.in_ok-spots.ensures.spots
