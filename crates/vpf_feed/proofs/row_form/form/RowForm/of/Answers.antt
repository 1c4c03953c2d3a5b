use Rattle.vpf_feed.proofs.row_form.Forms.{all_cut, some_field}
use Rattle.vpf_feed.proofs.row_form.form.RowForm.of.Goals as goal

pub returns-clause-sound : goal.returns-clause-sound
returns-clause-sound c =
    let sound = c.len-columns.ensures.sound in
    let columns = c.args.header.now.columns in
    record { cut = rw c.in_ok-fields.ensures (all_cut columns sound.counts); some = rw c.in_ok-fields.ensures (some_field columns sound.filled); wide = rw c.deref.ensures.value at c.row_width-width.ensures.told }
