use Rattle.std.proofs.Common.{◌≡◌, ◌+◌, ◌-◌, ◌≤◌, ◌++◌, ℕ, length, drop, take, refl, sym, ap, ◌∙◌, arith}
use Rattle.std.proofs.lemmas.List.{length-drop, take_all}
use Rattle.std.proofs.lemmas.Option.{slice_get_read}
use Rattle.vpf_feed.specs.Inner.RowForm.Walk.{row_left}
use Rattle.vpf_feed.proofs.row_form.Passing.{cell_more, row_full}
use Rattle.vpf_feed.proofs.row_form.whole.whole_row.Goals as goal

pub loop-i-preserved : goal.loop-i-preserved
loop-i-preserved c =
    let form = c.args.form.now in
    let bytes = c.args.bytes.now in
    let used = c.loop-i.used in
    let n = c.in_ok-len.len in
    let cell = c.in_ok-len.ensures in
    let field = slice_get_read form.fields.items (length form.fields.items) c.loop-i.i c.index.result.now refl (omega (arith, c.loop-i-test.true, c.len-i-end.ensures)) c.index.ensures in
    let all : take (length bytes - used) (drop used bytes) ≡ drop used bytes = take_all (length bytes - used) (drop used bytes) (omega (arith, length-drop used bytes)) in
    let room : n ≤ length bytes - used = omega (arith, cell.inside, ap length all, length-drop used bytes) in
    record {
      inside = omega (arith, room, c.loop-i.invariant.inside);
      row = λ at more. cell_more form.order form.fields.items c.loop-i.i used n at c.index.result.now bytes more _ field c.loop-i.invariant.inside room (rw all at cell.size) (c.loop-i.invariant.row at more);
    }

pub returns : goal.returns
returns c =
    let form = c.args.form.now in
    let all = form.fields.items in
    let bytes = c.args.bytes.now in
    let used = c.loop-i.used in
    let last : c.loop-i.i ≡ length all = omega (arith, c.loop-i-test.false, c.loop-i.auto.i-end, c.len-i-end.ensures) in
    record {
      inside = c.loop-i.invariant.inside;
      row = λ at more. sym (c.loop-i.invariant.row at more) ∙ ap (λ (k : ℕ). row_left form.order (drop k all) (at + used) (drop used bytes ++ more)) last ∙ row_full form.order all used at bytes more;
    }
