use Rattle.std.proofs.Common.{◌≡◌, ◌+◌, length, refl, ap, arith}
use Rattle.std.specs.Prelude.{slice_index_or}
use Rattle.std.proofs.lemmas.List.Elements.{All-push, All-rest}
use Rattle.vpf_value.specs.Values.{Nothing, view}
use Rattle.vpf_value.specs.Inner.Fitting.{FitsCell}
use Rattle.vpf_table.specs.Grid.{Row}
use Rattle.vpf_table.specs.Canonical.{FitsRow}
use Rattle.vpf_theme_build.specs.declared.grouping.Spot.{Spot}
use Rattle.vpf_theme_build.proofs.SpotLemmas.{spots_more, fits_at, first_fits}
use Rattle.vpf_theme_build.proofs.grouping.spots_of.Goals as goal

pub loop-row-preserved : goal.loop-row-preserved
loop-row-preserved c =
    let i = c.loop-row.invariant in
    let steps = c.in-Some.ensures.steps in
    let columns = c.args.table.now.head.columns in
    let spot : Spot = record { cell = c.cell.result; row = c.loop-row.k + 1 } in
    record {
      spots = spots_more (λ (row : Row). slice_index_or row c.args.column Nothing) c.args.column c.loop-row.k c.loop-row.spots.items c.push.new.self.items spot c.in-Some.row c.loop-row.row-iterator c.next.new.self _ (λ r. refl) c.in_ok-push.ensures.items c.cell.ensures refl steps i.spots;
      fits = λ column is. rw c.in_ok-push.ensures.items (All-push (λ (s : Spot). FitsCell column.kind column.count (view s.cell)) c.loop-row.spots.items spot (i.fits column is) (fits_at columns c.in-Some.row c.args.column column (view c.cell.result) (first_fits columns c.in-Some.row c.loop-row.row-iterator c.next.new.self steps i.rows) is c.cell.ensures));
      width = All-rest (λ (row : Row). length row ≡ length columns) c.in-Some.row c.next.new.self c.loop-row.row-iterator steps i.width;
      rows = All-rest (FitsRow columns) c.in-Some.row c.next.new.self c.loop-row.row-iterator steps i.rows;
      count = omega (arith, i.count, ap length steps);
    }
