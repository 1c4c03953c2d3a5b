use Rattle.std.proofs.Common.{◌≡◌, ℕ, true, false, not, length, ap, sym, refl, ◌∙◌, arith}
use Rattle.vpf_theme.specs.Inner.WalkLaws.{row_first, rows_rest}
use Rattle.vpf_base.proofs.Lists.{find_pass, find_stop}
use Rattle.vpf_value.specs.Values.{view}
use Rattle.vpf_theme.specs.Ordering.{same_value}
use Rattle.vpf_theme.specs.Findings.{cell_of, cells_of}
use Rattle.vpf_theme.specs.Inner.KeyLaws.{same_yes, same_no}
use Rattle.vpf_select.specs.Selecting.{first_unlike}
use Rattle.vpf_select.proofs.ScanLemmas.{found_more, cell_seen}
use Rattle.vpf_select.proofs.selecting.tested.Goals as goal

pub row-seen-requires-clause-first : goal.row-seen-requires-clause-first
row-seen-requires-clause-first g c = (row_first (length c.args.table.now.rows) c.in-Some.row c.loop-row.row-iterator.left c.next.new.self.left c.in-Some.ensures.steps.first c.loop-row.invariant.rows).0

pub row-seen-requires-clause-last : goal.row-seen-requires-clause-last
row-seen-requires-clause-last g c = (row_first (length c.args.table.now.rows) c.in-Some.row c.loop-row.row-iterator.left c.next.new.self.left c.in-Some.ensures.steps.first c.loop-row.invariant.rows).1

pub returns-then-not-same-clause-value : goal.returns-then-not-same-clause-value
returns-then-not-same-clause-value g c =
    let row = c.in-Some.row in
    let v = view c.args.test.now.value in
    let cells = cells_of c.args.table.now c.args.test.now.column in
    let seen : cell_of cells row ≡ view c.cell.result = cell_seen c.args.table.now c.args.test.now.column row c.row-seen.result (view c.cell.result) c.row-seen.ensures.row c.cell.ensures in
    let apart : same_value (cell_of cells row) v ≡ false = same_no (cell_of cells row) v (λ e. let t = c.same.ensures.1 (sym seen ∙ e) in let f = c.if-not-same.true in cc (sym t ∙ f)) in
    let stop = find_stop (λ (r : ℕ). not (same_value (cell_of cells r) v)) row c.loop-row.row-iterator.left c.next.new.self.left (first_unlike v cells c.args.hits.left) c.in-Some.ensures.steps.first c.loop-row.invariant.other (ap not apart) in
    rw stop refl

pub loop-row-preserved : goal.loop-row-preserved
loop-row-preserved g c =
    let i = c.loop-row.invariant in
    let row = c.in-Some.row in
    let steps = c.in-Some.ensures.steps.first in
    let one = ap length steps in
    let v = view c.args.test.now.value in
    let cells = cells_of c.args.table.now c.args.test.now.column in
    let seen : cell_of cells row ≡ view c.cell.result = cell_seen c.args.table.now c.args.test.now.column row c.row-seen.result (view c.cell.result) c.row-seen.ensures.row c.cell.ensures in
    let same : same_value (cell_of cells row) v ≡ true = same_yes (cell_of cells row) v (seen ∙ c.same.ensures.0 c.if-not-same.false) in
    record {
      rows = rows_rest (length c.args.table.now.rows) row c.loop-row.row-iterator.left c.next.new.self.left steps i.rows;
      found = found_more row c.loop-row.found.items c.push.new.self.items c.loop-row.row-iterator.left c.next.new.self.left c.args.hits.left steps c.in_ok-push.ensures.items i.found;
      other = find_pass (λ (r : ℕ). not (same_value (cell_of cells r) v)) row c.loop-row.row-iterator.left c.next.new.self.left (first_unlike v cells c.args.hits.left) steps i.other (ap not same);
      cost = omega (arith, one, i.cost, c.row-seen.ensures.tick);
    }
