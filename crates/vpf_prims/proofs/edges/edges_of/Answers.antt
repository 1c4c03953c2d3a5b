use Rattle.std.proofs.Common.{◌≡◌, ◌∙◌, arith, length, ap, sym}
use Rattle.std.proofs.lemmas.List.Elements.{All-rest}
use Rattle.vpf_table.specs.FirstLaws.{rows_pass}
use Rattle.vpf_table.specs.Grid.{Row}
use Rattle.vpf_prims.specs.Edges.{edge_lines, edge_of}
use Rattle.vpf_prims.proofs.RowLemmas.{map_more}
use Rattle.vpf_prims.proofs.edges.edges_of.Goals as goal

pub loop-row-preserved : goal.loop-row-preserved
loop-row-preserved c =
    let i = c.loop-row.invariant in
    let columns = c.args.columns.now in
    let steps = c.in-Some.ensures.steps in
    record {
      left = sym (rows_pass (edge_lines columns c.args.most) c.loop-row.k c.in-Some.row c.loop-row.row-iterator c.next.new.self steps c.in_ok-edge.ensures.first) ∙ i.left;
      edges = map_more (edge_of columns) c.loop-row.edges.items c.push.new.self.items c.in_ok-edge.field-0 c.in-Some.row c.loop-row.row-iterator c.next.new.self _ c.in_ok-push.ensures.items c.in_ok-edge.ensures.edge steps i.edges;
      width = All-rest (λ (row : Row). length row ≡ length c.args.table.now.head.columns) c.in-Some.row c.next.new.self c.loop-row.row-iterator steps i.width;
      count = omega (arith, i.count, ap length steps);
    }
