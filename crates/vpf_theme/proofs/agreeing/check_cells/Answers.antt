use Rattle.std.proofs.Common.{◌≡◌, ◌-◌, ◌<◌, ℕ, not, true, false, Some, length, map, sym, ap, ◌∙◌, arith}
use Rattle.vpf_base.proofs.Lists.{find_pass, find_stop}
use Rattle.vpf_value.specs.Values.{view}
use Rattle.vpf_findings.specs.Findings.{Disagreement}
use Rattle.vpf_theme.specs.Ordering.{same_value}
use Rattle.vpf_theme.specs.Findings.{cell_of}
use Rattle.vpf_theme.specs.Inner.KeyLaws.{same_yes, same_no}
use Rattle.vpf_theme.proofs.WalkLemmas.{cell_there}
use Rattle.vpf_theme.specs.Inner.WalkLaws.{row_first, rows_rest}
use Rattle.vpf_theme.proofs.agreeing.check_cells.Goals as goal

pub bounds-cells-row : goal.bounds-cells-row
bounds-cells-row c = let b = row_first (length c.args.cells.now) c.in-Some.row c.loop-row.row-iterator.left c.next.new.self.left c.in-Some.ensures.steps.first c.loop-row.invariant.rows in omega (arith, b.0, b.1)

pub returns-then-not-same : goal.returns-then-not-same
returns-then-not-same c =
    let row = c.in-Some.row in
    let steps = c.in-Some.ensures.steps.first in
    let cells = map view c.args.cells.now in
    let b = row_first (length c.args.cells.now) row c.loop-row.row-iterator.left c.next.new.self.left steps c.loop-row.invariant.rows in
    let in' : row - 1 < length c.args.cells.now = omega (arith, b.0, b.1) in
    let there : cell_of cells row ≡ view c.index-cells-row.result = cell_there c.args.cells.now (row - 1) c.index-cells-row.result in' c.index-cells-row.is in
    let apart : same_value (cell_of cells row) (view c.args.value) ≡ false = same_no (cell_of cells row) (view c.args.value) (λ e. let t = c.same.ensures.1 (sym there ∙ e) in let f = c.if-not-same.true in cc (sym t ∙ f)) in
    let stop = find_stop (λ (r : ℕ). not (same_value (cell_of cells r) (view c.args.value))) row c.loop-row.row-iterator.left c.next.new.self.left _ steps c.loop-row.invariant.left (ap not apart) in
    rw (stop, there) (ap (λ (d : Disagreement). Some d) (sym c.finding.ensures))

pub loop-row-preserved : goal.loop-row-preserved
loop-row-preserved c =
    let row = c.in-Some.row in
    let steps = c.in-Some.ensures.steps.first in
    let cells = map view c.args.cells.now in
    let b = row_first (length c.args.cells.now) row c.loop-row.row-iterator.left c.next.new.self.left steps c.loop-row.invariant.rows in
    let in' : row - 1 < length c.args.cells.now = omega (arith, b.0, b.1) in
    let there : cell_of cells row ≡ view c.index-cells-row.result = cell_there c.args.cells.now (row - 1) c.index-cells-row.result in' c.index-cells-row.is in
    let same : same_value (cell_of cells row) (view c.args.value) ≡ true = same_yes (cell_of cells row) (view c.args.value) (there ∙ c.same.ensures.0 c.if-not-same.false) in
    record {
      rows = rows_rest (length c.args.cells.now) row c.loop-row.row-iterator.left c.next.new.self.left steps c.loop-row.invariant.rows;
      left = find_pass (λ (r : ℕ). not (same_value (cell_of cells r) (view c.args.value))) row c.loop-row.row-iterator.left c.next.new.self.left _ steps c.loop-row.invariant.left (ap not same);
    }
