use Rattle.std.proofs.Common.{◌≡◌, length, ap, arith, subst, sym, ◌∙◌}
use Rattle.std.proofs.lemmas.List.Elements.{All-rest}
use Rattle.vpf_value.specs.Values.{view}
use Rattle.vpf_table.specs.Grid.{Row}
use Rattle.vpf_theme.specs.Findings.{cells_of}
use Rattle.vpf_theme.specs.Agreeing.{scan_of}
use Rattle.vpf_theme.specs.Entries.{AreRows}
use Rattle.vpf_select.proofs.ScanLemmas.{scan_done, scan_hit, scan_miss, scan_rows}
use Rattle.vpf_select.proofs.scanning.scan.Goals as goal

pub loop-row-preserved-in-Continue-1 : goal.loop-row-preserved-in-Continue-1
loop-row-preserved-in-Continue-1 g c =
    let i = c.loop-row.invariant in
    let steps = c.in-Some.ensures.steps in
    let one = ap length steps in
    let same : view c.cell.result ≡ view c.args.test.now.value = c.same.ensures.0 c.if-same.true in
    record {
      found = scan_hit (view c.args.test.now.value) c.args.test.now.column c.loop-row.k c.loop-row.found.items c.push.new.self.items _ c.in-Some.row (view c.cell.result) c.loop-row.row-iterator c.next.new.self steps c.cell.ensures same c.in_ok-push.ensures.items i.found;
      count = omega (arith, one, i.count);
      cost = omega (arith, i.cost);
      width = All-rest (λ (row : Row). length row ≡ length c.args.table.now.head.columns) c.in-Some.row c.next.new.self c.loop-row.row-iterator steps i.width;
    }

pub loop-row-preserved : goal.loop-row-preserved
loop-row-preserved g c =
    let i = c.loop-row.invariant in
    let steps = c.in-Some.ensures.steps in
    let one = ap length steps in
    record {
      found = scan_miss (view c.args.test.now.value) c.args.test.now.column c.loop-row.k c.loop-row.found.items _ c.in-Some.row (view c.cell.result) c.loop-row.row-iterator c.next.new.self steps c.cell.ensures (λ e. let t = c.same.ensures.1 e in let f = c.if-same.false in cc (sym t ∙ f)) i.found;
      count = omega (arith, one, i.count);
      cost = omega (arith, i.cost);
      width = All-rest (λ (row : Row). length row ≡ length c.args.table.now.head.columns) c.in-Some.row c.next.new.self c.loop-row.row-iterator steps i.width;
    }

pub returns-clause-rows : goal.returns-clause-rows
returns-clause-rows g c =
    let grid = c.args.table.now in
    let column = c.args.test.now.column in
    let v = view c.args.test.now.value in
    let whole = scan_done v column c.loop-row.k c.loop-row.found.items (scan_of v (cells_of grid column)) c.loop-row.row-iterator c.in-None.ensures.steps.0 c.loop-row.invariant.found in
    subst (AreRows (length grid.rows)) (sym whole) (scan_rows v grid column)
