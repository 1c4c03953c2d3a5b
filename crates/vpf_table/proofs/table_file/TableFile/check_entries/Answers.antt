use Rattle.std.proofs.Common.{◌+◌, ◌-◌, ℕ, Option, None, Some, Err, Ok, length, drop, refl, sym, ap, ◌∙◌, arith}
use Rattle.std.proofs.lemmas.List.{drop_all}
use Rattle.vpf_base.specs.Limits.{most_rows}
use Rattle.vpf_table.specs.Grid.{Grid}
use Rattle.vpf_table.specs.Reading.{row_at, rows_at}
use Rattle.vpf_table.specs.Walking.{past_of, rows_of}
use Rattle.vpf_table.specs.Opening.{spans_at, first_other, row_spans}
use Rattle.vpf_table.proofs.Owning.{spans_are, told_by}
use Rattle.vpf_table.proofs.RowSteps.{row_step}
use Rattle.vpf_table.proofs.SpanLemmas.{spans_next, next_entry, other_here, other_later, other_none}
use Rattle.vpf_table.proofs.table_file.TableFile.check_entries.Goals as goal

pub next_row-past-requires-clause-read : goal.next_row-past-requires-clause-read
next_row-past-requires-clause-read c =
    let h = c.self.inside.header.value in
    rw c.as_ref.ensures (row_step h.order h.columns c.self.inside.bytes.now c.loop-k.at (most_rows - c.loop-k.k) (most_rows - (c.loop-k.k + 1)) (past_of (row_at h.order h.columns c.self.inside.bytes.now c.loop-k.at)) c.loop-k.invariant.read (omega (arith, c.loop-k.invariant.count)) (omega arith) refl).0

pub returns-then-not-is_span : goal.returns-then-not-is_span
returns-then-not-is_span c =
    let h = c.self.inside.header.value in
    let bytes = c.self.inside.bytes.now in
    let k = c.loop-k.k in
    let n = length c.args.index.now in
    let past = c.next_row-past.result in
    let es = next_entry c.args.index.now k (k + 1 - 1) c.entry.result (omega arith) c.entry.ensures in
    let ss = spans_next (n - k) (n - (k + 1)) h.order h.columns bytes c.loop-k.at past (omega arith) (rw c.as_ref.ensures at c.next_row-past.ensures.value) in
    let o : Option ℕ = first_other 0 c.args.index.now (spans_at n h.order h.columns bytes c.self.inside.start) in
    let differs = other_here k (drop k c.args.index.now) (drop (k + 1) c.args.index.now) (spans_at (n - k) h.order h.columns bytes c.loop-k.at) (spans_at (n - (k + 1)) h.order h.columns bytes past) c.entry.result (c.loop-k.at, past - c.loop-k.at) o es ss (sym c.is_span.ensures ∙ c.if-not-is_span.true) c.loop-k.invariant.same in
    let t = c.self.inside in
    let g : Grid = record { head = t.header.value; rows = rows_of (rows_at most_rows h.order h.columns bytes t.start) } in
    let many = rw (← c.self.view_is) at c.requires in
    let spans = spans_are bytes g t.start c.self.invariant.begun ∙ ap (λ (m : ℕ). spans_at m h.order h.columns bytes t.start) (sym many) in
    rw (← c.self.view_is) (told_by (Err c.in_index.result) c.args.index.now (spans_at n h.order h.columns bytes t.start) (row_spans bytes g) (Some k) spans differs (rw c.in_index.ensures refl))

pub loop-k-preserved : goal.loop-k-preserved
loop-k-preserved c =
    let h = c.self.inside.header.value in
    let bytes = c.self.inside.bytes.now in
    let k = c.loop-k.k in
    let n = length c.args.index.now in
    let past = c.next_row-past.result in
    let es = next_entry c.args.index.now k (k + 1 - 1) c.entry.result (omega arith) c.entry.ensures in
    let ss = spans_next (n - k) (n - (k + 1)) h.order h.columns bytes c.loop-k.at past (omega arith) (rw c.as_ref.ensures at c.next_row-past.ensures.value) in
    let o : Option ℕ = first_other 0 c.args.index.now (spans_at n h.order h.columns bytes c.self.inside.start) in
    let s = row_step h.order h.columns bytes c.loop-k.at (most_rows - k) (most_rows - (k + 1)) past c.loop-k.invariant.read (omega (arith, c.loop-k.invariant.count)) (omega arith) (rw c.as_ref.ensures at c.next_row-past.ensures.value) in
    record {
      inside = c.next_row-past.ensures.inside;
      read = s.1;
      count = omega (arith, c.loop-k.invariant.count, ap length s.2);
      same = other_later k (drop k c.args.index.now) (drop (k + 1) c.args.index.now) (spans_at (n - k) h.order h.columns bytes c.loop-k.at) (spans_at (n - (k + 1)) h.order h.columns bytes past) c.entry.result (c.loop-k.at, past - c.loop-k.at) o es ss (sym c.is_span.ensures ∙ c.if-not-is_span.false) c.loop-k.invariant.same;
    }

pub returns : goal.returns
returns c =
    let h = c.self.inside.header.value in
    let bytes = c.self.inside.bytes.now in
    let k = c.loop-k.k in
    let n = length c.args.index.now in
    let o : Option ℕ = first_other 0 c.args.index.now (spans_at n h.order h.columns bytes c.self.inside.start) in
    let none = other_none k (drop k c.args.index.now) (spans_at (n - k) h.order h.columns bytes c.loop-k.at) o (drop_all k c.args.index.now (omega arith)) c.loop-k.invariant.same in
    let t = c.self.inside in
    let g : Grid = record { head = t.header.value; rows = rows_of (rows_at most_rows h.order h.columns bytes t.start) } in
    let many = rw (← c.self.view_is) at c.requires in
    let spans = spans_are bytes g t.start c.self.invariant.begun ∙ ap (λ (m : ℕ). spans_at m h.order h.columns bytes t.start) (sym many) in
    rw (← c.self.view_is) (told_by (Ok tt) c.args.index.now (spans_at n h.order h.columns bytes t.start) (row_spans bytes g) None spans none refl)
