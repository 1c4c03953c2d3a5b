use Rattle.std.proofs.Common.{◌≡◌, length}
use Rattle.std.proofs.lemmas.List.Elements.{All-rest}
use Rattle.vpf_table.specs.Grid.{Row}
use Rattle.vpf_prims.specs.Edges.{edge_row}
use Rattle.vpf_prims.proofs.RowLemmas.{map_more}
use Rattle.vpf_prims.proofs.edge_lists.rows_of.Goals as goal

pub loop-row-preserved : goal.loop-row-preserved
loop-row-preserved c =
    let i = c.loop-row.invariant in
    let steps = c.in-Some.ensures.steps in
    record {
      rows = map_more (edge_row c.args.columns.now) c.loop-row.rows.items c.push.new.self.items c.row.result c.in-Some.row c.loop-row.row-iterator c.next.new.self _ c.in_ok-push.ensures.items c.row.ensures steps i.rows;
      width = All-rest (λ (row : Row). length row ≡ length c.args.table.now.head.columns) c.in-Some.row c.next.new.self c.loop-row.row-iterator steps i.width;
    }
