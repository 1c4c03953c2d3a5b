use Rattle.std.proofs.Common.{length, arith}
use Rattle.std.proofs.lemmas.List.{length-set}
use Rattle.vpf_theme.proofs.WalkLemmas.{mark_more}
use Rattle.vpf_theme.specs.Inner.WalkLaws.{row_first, rows_rest}
use Rattle.vpf_theme.proofs.marking.mark_rows.Goals as goal

pub bounds-marks-row : goal.bounds-marks-row
bounds-marks-row c = let b = row_first (length c.loop-row.marks) c.in-Some.row c.loop-row.row-iterator.left c.next.new.self.left c.in-Some.ensures.steps.first c.loop-row.invariant.rows in omega (arith, b.0, b.1)

pub loop-row-preserved : goal.loop-row-preserved
loop-row-preserved c =
    let i = c.loop-row.invariant in
    let steps = c.in-Some.ensures.steps.first in
    let b = row_first (length c.loop-row.marks) c.in-Some.row c.loop-row.row-iterator.left c.next.new.self.left steps i.rows in
    record {
      rows = rw length-set (rows_rest (length c.loop-row.marks) c.in-Some.row c.loop-row.row-iterator.left c.next.new.self.left steps i.rows);
      marks = λ k h. let m = rw length-set at h in mark_more c.loop-row.marks k c.in-Some.row c.loop-row.row-iterator.left c.next.new.self.left _ steps b.0 b.1 m (i.marks k m);
    }
