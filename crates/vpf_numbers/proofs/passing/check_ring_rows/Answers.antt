use Rattle.std.proofs.Common.{◌≡◌, arith, length, ap}
use Rattle.std.proofs.lemmas.List.Elements.{All-rest}
use Rattle.vpf_table.specs.Grid.{Row}
use Rattle.vpf_prims.specs.Columns.{role_at}
use Rattle.vpf_numbers.specs.RowLines.{ring_rows_line}
use Rattle.vpf_prims.specs.Inner.RowLaws.{or_silent, lines_left as rows_left}
use Rattle.vpf_numbers.proofs.passing.check_ring_rows.Goals as goal

pub loop-row-preserved : goal.loop-row-preserved
loop-row-preserved c =
    let i = c.loop-row.invariant in
    let rest = c.next.new.self in
    let steps = c.in-Some.ensures.steps in
    record {
      left = rows_left (ring_rows_line c.args.at (role_at c.args.id.now) (role_at c.args.face.now) (role_at c.args.edge.now) c.args.faces c.args.edges) c.loop-row.k c.in-Some.row c.loop-row.row-iterator rest _ steps (or_silent _ _ c.in_ok-check_id.ensures (or_silent _ _ c.in_ok-check_reference.ensures c.in_ok-check_reference-2.ensures)) i.left;
      width = All-rest (λ (row : Row). length row ≡ length c.args.table.now.head.columns) c.in-Some.row rest c.loop-row.row-iterator steps i.width;
      count = omega (arith, i.count, ap length steps);
    }
