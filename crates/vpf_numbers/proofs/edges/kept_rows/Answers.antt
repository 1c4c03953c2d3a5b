use Rattle.std.proofs.Common.{◌≡◌, arith, length, ap}
use Rattle.std.proofs.lemmas.List.Elements.{All-rest}
use Rattle.vpf_table.specs.Grid.{Row}
use Rattle.vpf_prims.specs.Edges.{edge_row}
use Rattle.vpf_prims.specs.Inner.RowLaws.{lines_left as rows_left}
use Rattle.vpf_numbers.specs.RowLines.{edge_row_lines}
use Rattle.vpf_numbers.proofs.RowLemmas.{said_more}
use Rattle.vpf_numbers.proofs.edges.kept_rows.Goals as goal

pub loop-row-preserved : goal.loop-row-preserved
loop-row-preserved c =
    let i = c.loop-row.invariant in
    let rest = c.next.new.self in
    let steps = c.in-Some.ensures.steps in
    record {
      left = rows_left (edge_row_lines c.args.around.now c.args.columns.now c.args.most) c.loop-row.k c.in-Some.row c.loop-row.row-iterator rest _ steps c.in_ok-check_row.ensures.first i.left;
      said = said_more (edge_row c.args.columns.now) c.loop-row.said.items c.push.new.self.items _ c.in-Some.row c.loop-row.row-iterator rest _ steps c.in_ok-push.ensures.items c.in_ok-check_row.ensures.said i.said;
      width = All-rest (λ (row : Row). length row ≡ length c.args.table.now.head.columns) c.in-Some.row rest c.loop-row.row-iterator steps i.width;
      count = omega (arith, i.count, ap length steps);
    }
