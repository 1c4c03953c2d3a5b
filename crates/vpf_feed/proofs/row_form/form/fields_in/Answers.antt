use Rattle.std.proofs.Common.{◌+◌, ◌++◌, List, drop, sym, ap, ◌∙◌}
use Rattle.vpf_base.proofs.Lists.{next_item}
use Rattle.vpf_head.specs.Head.{Col}
use Rattle.vpf_head.specs.Inner.Views.{col}
use Rattle.vpf_feed.specs.Inner.RowForm.Form.{form_fields}
use Rattle.vpf_feed.proofs.row_form.form.fields_in.Goals as goal

pub loop-i-preserved : goal.loop-i-preserved
loop-i-preserved c =
    let columns = c.args.header.now.columns in
    let left = next_item columns c.loop-i.i (col c.at.result.now) c.at.ensures in
    c.in_ok-push_field.ensures (drop (c.loop-i.i + 1) columns) ∙ ap (λ (cs : List Col). c.loop-i.fields.items ++ form_fields cs) (sym left) ∙ c.loop-i.invariant
