use Rattle.std.proofs.Common.{◌≡◌, ◌-◌, ℕ, false, length, ap, arith}
use Rattle.std.specs.Prelude.{not, slice_index_or}
use Rattle.vpf_theme.specs.Inner.WalkLaws.{row_first, rows_rest}
use Rattle.vpf_base.proofs.Lists.{find_pass}
use Rattle.vpf_select.specs.Inner.Passing.{first_unmet}
use Rattle.vpf_select.proofs.ScanLemmas.{found_more}
use Rattle.vpf_select.proofs.passing.all_met.Goals as goal

pub bounds-met-row : goal.bounds-met-row
bounds-met-row c =
    let first = row_first (length c.args.met.now) c.in-Some.row c.loop-row.row-iterator.left c.next.new.self.left c.in-Some.ensures.steps.first c.loop-row.invariant.rows in
    omega (arith, first.0, first.1)

pub returns-then-not-met-row-clause-refused : goal.returns-then-not-met-row-clause-refused
returns-then-not-met-row-clause-refused c = row_first (length c.args.met.now) c.in-Some.row c.loop-row.row-iterator.left c.next.new.self.left c.in-Some.ensures.steps.first c.loop-row.invariant.rows

pub loop-row-preserved : goal.loop-row-preserved
loop-row-preserved c =
    let i = c.loop-row.invariant in
    let row = c.in-Some.row in
    let steps = c.in-Some.ensures.steps.first in
    let met = c.args.met.now in
    let is : not (slice_index_or met (row - 1) false) ≡ false = ap not c.if-not-met-row.false in
    record {
      rows = rows_rest (length met) row c.loop-row.row-iterator.left c.next.new.self.left steps i.rows;
      found = found_more row c.loop-row.found.items c.push.new.self.items c.loop-row.row-iterator.left c.next.new.self.left c.args.hits.left steps c.in_ok-push.ensures.items i.found;
      other = find_pass (λ (r : ℕ). not (slice_index_or met (r - 1) false)) row c.loop-row.row-iterator.left c.next.new.self.left (first_unmet met c.args.hits.left) steps i.other is;
    }
