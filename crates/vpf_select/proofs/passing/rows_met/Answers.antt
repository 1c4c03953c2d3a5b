use Rattle.std.proofs.Common.{◌≡◌, [], ◌∷◌, length, ap, ◌∙◌, arith}
use Rattle.std.proofs.lemmas.List.{length-append}
use Rattle.std.proofs.lemmas.List.Elements.{All-rest}
use Rattle.vpf_value.specs.Values.{view}
use Rattle.vpf_table.specs.Grid.{Row}
use Rattle.vpf_select.proofs.ScanLemmas.{met_more, same_bit}
use Rattle.vpf_select.proofs.passing.rows_met.Goals as goal

pub loop-row-preserved : goal.loop-row-preserved
loop-row-preserved g c =
    let i = c.loop-row.invariant in
    let steps = c.in-Some.ensures.steps in
    let one = ap length steps in
    let v = view c.args.test.now.value in
    let bit = same_bit (view c.cell.result) v c.same.result c.same.ensures.0 c.same.ensures.1 in
    let more = ap length c.in_ok-push.ensures.items ∙ length-append c.loop-row.met.items (c.same.result ∷ []) in
    record {
      met = met_more v c.args.test.now.column c.loop-row.met.items c.push.new.self.items _ c.same.result c.in-Some.row (view c.cell.result) c.loop-row.row-iterator c.next.new.self steps c.cell.ensures bit c.in_ok-push.ensures.items i.met;
      count = omega (arith, one, more, i.count);
      cost = omega (arith, more, i.cost, c.tick.ensures);
      width = All-rest (λ (row : Row). length row ≡ length c.args.table.now.head.columns) c.in-Some.row c.next.new.self c.loop-row.row-iterator steps i.width;
    }
