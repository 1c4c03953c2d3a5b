use Rattle.std.proofs.Common.{◌≡◌, ◌+◌, ◌-◌, ℕ, Some, length, refl, sym, ap, subst, ◌∙◌, arith}
use Rattle.std.specs.Prelude.{slice_get}
use Rattle.std.proofs.lemmas.List.{length-drop}
use Rattle.vpf_base.specs.Limits.{most_rows}
use Rattle.vpf_table.specs.Reading.{row_at, rows_at}
use Rattle.vpf_table.specs.Walking.{row_of, past_of, rows_of}
use Rattle.vpf_table.proofs.RowSteps.{row_step, front}
use Rattle.vpf_table.proofs.table_file.TableFile.walked_place.Goals as goal

pub sure_end-at-requires-clause-read : goal.sure_end-at-requires-clause-read
sure_end-at-requires-clause-read c =
    let t = c.self.inside in
    let rows = rows_of (rows_at most_rows t.header.value.order t.header.value.columns t.bytes.now t.start) in
    let o = t.header.value.order in
    let cs = t.header.value.columns in
    let bytes = t.bytes.now in
    let within = rw (← c.self.view_is) at c.requires in
    rw c.as_ref.ensures (row_step o cs bytes c.loop-i.at (most_rows - c.loop-i._i) (most_rows - (c.loop-i._i + 1)) (past_of (row_at o cs bytes c.loop-i.at)) c.loop-i.invariant.read (omega (arith, within, ap length c.loop-i.invariant.rest, length-drop c.loop-i._i rows)) (omega arith) refl).0

pub loop-i-preserved : goal.loop-i-preserved
loop-i-preserved c =
    let t = c.self.inside in
    let rows = rows_of (rows_at most_rows t.header.value.order t.header.value.columns t.bytes.now t.start) in
    let o = t.header.value.order in
    let cs = t.header.value.columns in
    let bytes = t.bytes.now in
    let within = rw (← c.self.view_is) at c.requires in
    let s = row_step o cs bytes c.loop-i.at (most_rows - c.loop-i._i) (most_rows - (c.loop-i._i + 1)) c.sure_end-at.result c.loop-i.invariant.read (omega (arith, within, ap length c.loop-i.invariant.rest, length-drop c.loop-i._i rows)) (omega arith) (rw c.as_ref.ensures at c.sure_end-at.ensures.value) in
    record { inside = c.sure_end-at.ensures.inside; read = s.1; rest = sym (front rows c.loop-i._i _ _ (sym c.loop-i.invariant.rest ∙ s.2)).1 }

pub returns : goal.returns
returns c =
    let t = c.self.inside in
    let rows = rows_of (rows_at most_rows t.header.value.order t.header.value.columns t.bytes.now t.start) in
    let o = t.header.value.order in
    let cs = t.header.value.columns in
    let bytes = t.bytes.now in
    let within = rw (← c.self.view_is) at c.requires in
    let s = row_step o cs bytes c.loop-i.at (most_rows - c.loop-i._i) (most_rows - (c.loop-i._i + 1)) (past_of (row_at o cs bytes c.loop-i.at)) c.loop-i.invariant.read (omega (arith, within, ap length c.loop-i.invariant.rest, length-drop c.loop-i._i rows)) (omega arith) refl in
    let e : c.loop-i._i ≡ c.args.k = omega arith in
    let item = subst (λ (i : ℕ). slice_get rows i ≡ Some (row_of (row_at o cs bytes c.loop-i.at))) e (front rows c.loop-i._i _ _ (sym c.loop-i.invariant.rest ∙ s.2)).0 in
    rw (← c.self.view_is) record { inside = c.loop-i.invariant.inside; read = s.0; item = item }
